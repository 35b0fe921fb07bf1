-- The condition on conflicts, put together.
use Rattle.std.proofs.Common.{◌≡◌, Bool, true, false, ◌&&◌, List, Option, None, Some, refl, sym, ap, ◌∙◌}
use Rattle.std.specs.Option.{option_map_or}
use Rattle.std.specs.Prelude.{option_map}
use Rattle.cell_model.specs.declared.cell.Cell.{Cell}
use Rattle.cell_model.specs.declared.table.TableDecl.{TableDecl}
use Rattle.isolation_spec.specs.declared.place.Place.{Place}
use Rattle.workload_spec.specs.declared.reply.Said.{Said}
use Rattle.workload_spec.specs.declared.reply.Said.TheVariants as said
use Rattle.outcome_spec.specs.Conflicts.{conflict_holds, conflicts_hold, is_first_updater, names_session, passes_no_commit, passes_no_session}
use Rattle.outcome_spec.specs.Entries.{Entry}
use Rattle.outcome_spec.specs.Runs.{Run, Span, run_of, transaction_of, write_of}
use Rattle.timeline_laws.proofs.Tests.{and-true}
use Rattle.outcome_judge.specs.Conflicts.{height_rule, heights_hold, is_highest, is_named, number_rule, numbers_hold, session_rule, sessions_hold, shown_in}
use Rattle.outcome_judge.specs.Writers.{numbers_of, transaction_told}
use Rattle.outcome_judge.specs.HistoryKept.{place_in}
use Rattle.outcome_judge.specs.declared.commits.Transaction.{Transaction}
use Rattle.outcome_judge.specs.declared.conflicts.Shown.{Shown}
use Rattle.outcome_judge.specs.declared.keys.RowKey.{RowKey}
use Rattle.outcome_judge.proofs.Updating.{names-commit}

-- ---- the rule that a reply is under, in three parts

-- A conjunction is the same either way around.
turned : (a b : Bool) → (a && b) ≡ (b && a)
turned false false = refl
turned false true = refl
turned true false = refl
turned true true = refl

-- the second in front
second-first : (a b c : Bool) → ((a && b) && c) ≡ ((b && a) && c)
second-first a b c = ap (λ (d : Bool). d && c) (turned a b)

-- the last two in front, turned
last-first : (a b c : Bool) → ((a && b) && c) ≡ ((c && b) && a)
last-first false false false = refl
last-first false false true = refl
last-first false true false = refl
last-first false true true = refl
last-first true false false = refl
last-first true false true = refl
last-first true true false = refl
last-first true true true = refl

-- the rule of a place and what is told, of sessions, of how high commits are, and of their numbers
abbrev all_rules : Run → Span → Place → Entry → Shown → Bool
all_rules run t place entry its = (session_rule run t place entry its && height_rule run t place entry its) && number_rule run t place entry its

-- The rules of sessions, of heights and of numbers together are the rule on conflicts.
rule-parts : (tables : List TableDecl) (entries : List Entry) (t : Span) (place : Place) (entry : Entry) (told : Said)
    → all_rules (run_of tables entries) t place entry (shown_in told) ≡ conflict_holds (run_of tables entries) t place entry told
rule-parts tables entries t place entry said.Memory = refl
rule-parts tables entries t place entry (said.ConflictSession session) = let n = names_session (run_of tables entries) t place entry session in and-true (n && true) ∙ and-true n
rule-parts tables entries t place entry (said.ConflictCommit number) =
    let run = run_of tables entries in
    last-first (passes_no_session run t place entry) (is_highest entries (numbers_of entries place) entry number) (is_named run t (numbers_of entries place) entry number)
    ∙ ap (λ (b : Bool). b && passes_no_session run t place entry) (names-commit tables entries t place entry number)
rule-parts tables entries t place entry said.Accepted =
    let run = run_of tables entries in
    second-first (passes_no_session run t place entry) (passes_no_commit run t place entry) (is_first_updater run t place)
rule-parts tables entries t place entry _ =
    let run = run_of tables entries in
    and-true (passes_no_session run t place entry && passes_no_commit run t place entry) ∙ turned (passes_no_session run t place entry) (passes_no_commit run t place entry)

-- the condition on conflicts is its three parts
pub in-parts : (tables : List TableDecl) (entries : List Entry) (entry : Entry) → let run = run_of tables entries in
    ((sessions_hold run entry && heights_hold run entry) && numbers_hold run entry) ≡ conflicts_hold run entry
in-parts tables entries entry = by (transaction_of (run_of tables entries) entry) (write_of entry.command)
  where
    by : (own : Option Span) (write : Option (Place × Option (List Cell))) → let run = run_of tables entries in let its = shown_in entry.reply.said in
        ((option_map_or (λ t. option_map_or (λ w. session_rule run t w.0 entry its) write true) own true
        && option_map_or (λ t. option_map_or (λ w. height_rule run t w.0 entry its) write true) own true)
        && option_map_or (λ t. option_map_or (λ w. number_rule run t w.0 entry its) write true) own true)
        ≡ option_map_or (λ t. option_map_or (λ w. conflict_holds run t w.0 entry entry.reply.said) write true) own true
    by None write = refl
    by (Some t) None = refl
    by (Some t) (Some write) = rule-parts tables entries t write.0 entry entry.reply.said

-- outside of a transaction nothing is asked
pub no-transaction : (f : Span → Bool) (own : Option Span) → option_map transaction_told own ≡ None → true ≡ option_map_or f own true
no-transaction f None h = refl
no-transaction f (Some t) h = absurd (let never : ⊥ = cc in never)

-- where there is a transaction and a write, what is asked of both is the answer
pub both-there : (f : Span → Place → Bool) (own : Option Span) (t : Transaction) (write : Option (Place × Option (List Cell))) (of : RowKey) (answer : Bool)
    → option_map transaction_told own ≡ Some t → Some (place_in of) ≡ option_map (λ w. w.0) write → ((span : Span) → own ≡ Some span → transaction_told span ≡ t → answer ≡ f span (place_in of))
    → answer ≡ option_map_or (λ s. option_map_or (λ w. f s w.0) write true) own true
both-there f None t write of answer is at holds = absurd (let never : ⊥ = cc in never)
both-there f (Some span) t None of answer is at holds = absurd (let never : ⊥ = cc in never)
both-there f (Some span) t (Some write) of answer is at holds =
    let told : transaction_told span ≡ t = cc in
    let place : place_in of ≡ write.0 = cc in
    holds span refl told ∙ ap (f span) place

-- what the reply that is asked shows
pub shown-by : (asked entry : Entry) (told its : Shown) → entry ≡ asked → told ≡ shown_in entry.reply.said → told ≡ its → its ≡ shown_in asked.reply.said
shown-by asked entry told its same is at = sym at ∙ is ∙ ap (λ (e : Entry). shown_in e.reply.said) same
