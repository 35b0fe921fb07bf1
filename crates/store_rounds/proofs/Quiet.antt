-- Calls that send nothing.
use Rattle.std.proofs.Common.{◌≡◌, ℕ, zero, suc, ◌+◌, ◌-◌, ◌<◌, ◌≤◌, Bool, true, false, ◌||◌, List, [], ◌∷◌, ◌++◌, length, get_or, Option, None, Some, refl, sym, ap, ◌∙◌, subst, arith}
use Rattle.std.specs.Prelude.{IfSome}
use Rattle.std.specs.List.{enumerate_from, flat_map, list_all, list_any, range_with_len}
use Rattle.std.proofs.KnownBytes.{Appends-nil}
use Rattle.std.proofs.lemmas.Bool.{and_from, and_parts}
use Rattle.std.proofs.lemmas.List.Folds.{list_all-append, list_any-append}
use Rattle.cell_model.specs.declared.table.TableDecl.{TableDecl}
use Rattle.run_laws.proofs.Exports.Quiet.{upkeep_no_export}
use Rattle.run_laws.proofs.Exports.Sending.{sendings_join}
use Rattle.export_spec.specs.Calls.{CallsSend, SendsAs}
use Rattle.outcome_spec.specs.Forms.{is_upkeep, turn_of}
use Rattle.outcome_spec.specs.Tables.{blocks_at, columns_at}
use Rattle.workload_spec.specs.Valid.{is_export}
use Rattle.workload_spec.specs.declared.command.Command.{Command}
use Rattle.workload_spec.specs.declared.command.Command.TheVariants as command
use Rattle.run_spec.specs.Calls.{Call}
use Rattle.store_rounds.specs.Answered.{SentBy}
use Rattle.store_rounds.specs.Crews.{calls_of, turns_in}
use Rattle.store_rounds.specs.Duties.{has_export}
use Rattle.store_rounds.specs.Served.{asked_of_task}
use Rattle.store_rounds.specs.Worked.{asked_in}
use Rattle.store_rounds.specs.declared.duty.Task.{Task}
use Rattle.store_rounds.specs.declared.duty.Task.TheVariants as task
use Rattle.store_rounds.proofs.Sends.{nothing_said}

-- ---- none of a list

-- of two that are not, neither is
pub neither : (a b : Bool) → a || b ≡ false → (a ≡ false) × (b ≡ false)
neither true b e = absurd (let never : ⊥ = cc e in never)
neither false b e = (refl, e)

-- what none of two lists together passes, none of either passes
pub none_of_both : {X : Type 0} (f : X → Bool) (xs ys : List X) → list_any f (xs ++ ys) ≡ false → (list_any f xs ≡ false) × (list_any f ys ≡ false)
none_of_both f xs ys none = neither (list_any f xs) (list_any f ys) (sym (list_any-append f xs ys) ∙ none)

-- none of a list is so, at each place
pub none_at : {X : Type 0} (f : X → Bool) (xs : List X) → list_any f xs ≡ false → (k : ℕ) (d : X) → k < length xs → f (get_or xs k d) ≡ false
none_at f [] none k d within = absurd (omega (arith, within))
none_at f (x ∷ xs) none zero d within = (neither (f x) (list_any f xs) none).0
none_at f (x ∷ xs) none (suc k) d within = none_at f xs (neither (f x) (list_any f xs) none).1 k d (omega (arith, within))

-- ---- upkeep exports nothing

-- Among commands that are all upkeep there is no export.
upkeep_exports_none : (commands : List Command) → list_all is_upkeep commands ≡ true → list_any is_export commands ≡ false
upkeep_exports_none [] all = refl
upkeep_exports_none (asked ∷ commands) all =
    let parts = and_parts (is_upkeep asked) (list_all is_upkeep commands) all in
    ap (λ b. b || list_any is_export commands) (upkeep_no_export asked parts.0) ∙ upkeep_exports_none commands parts.1

-- Where each element gives only upkeep, so do all of them together.
all_flat : {X : Type 0} (f : X → List Command) → ((x : X) → list_all is_upkeep (f x) ≡ true) → (xs : List X) → list_all is_upkeep (flat_map f xs) ≡ true
all_flat f each [] = refl
all_flat f each (x ∷ xs) =
    list_all-append is_upkeep (f x) (flat_map f xs) ∙ and_from (list_all is_upkeep (f x)) (list_all is_upkeep (flat_map f xs)) (each x) (all_flat f each xs)

-- a worker's turns are upkeep
turns_are_upkeep : (tables : List TableDecl) (turns : ℕ) → list_all is_upkeep (turns_in tables turns) ≡ true
turns_are_upkeep tables turns = all_flat (λ (turn : ℕ). turn_of tables) (λ turn. one) (range_with_len 1 turns)
  where
    one : list_all is_upkeep (turn_of tables) ≡ true
    one = all_flat
        (λ (entry : ℕ × TableDecl). command.Compact entry.0 ∷ flat_map (λ block. command.Seal entry.0 block ∷ command.Gather entry.0 block ∷ []) (range_with_len 0 entry.1.blocks))
        (λ entry. all_flat (λ (block : ℕ). command.Seal entry.0 block ∷ command.Gather entry.0 block ∷ []) (λ block. refl) (range_with_len 0 entry.1.blocks))
        (enumerate_from 0 tables)

-- one with no export to do is asked none
pub asks_none : (tables : List TableDecl) (to_do : Option Task) → has_export to_do ≡ false → list_any is_export (asked_of_task tables to_do) ≡ false
asks_none tables None none = refl
asks_none tables (Some (task.Commands commands)) none = none
asks_none tables (Some (task.Turns worker turns)) none = upkeep_exports_none (turns_in tables turns) (turns_are_upkeep tables turns)

-- ---- calls without an export send nothing

-- calls without an export send nothing
pub quiet_sends : (tables : List TableDecl) (calls : List Call) → list_any is_export (asked_in calls) ≡ false → CallsSend tables calls []
quiet_sends tables [] none = refl
quiet_sends tables (call ∷ calls) none =
    let parts = neither (is_export call.command) (list_any is_export (asked_in calls)) none in (
      [],
      [],
      refl,
      record {
        by_line = nothing_said call.command
            (λ table. IfSome call.told (λ told. SendsAs (columns_at tables table) (blocks_at tables table) call.made told []))
            parts.0;
        quiet = λ no. refl;
      },
      quiet_sends tables calls parts.1,
    )

-- The calls of so many, none of which asks for an export, send nothing.
row_sends : (tables : List TableDecl) (calls : ℕ → List Call) (a n : ℕ)
    → ((k : ℕ) → a ≤ k → k < a + n → list_any is_export (asked_in (calls k)) ≡ false)
    → CallsSend tables (flat_map calls (range_with_len a n)) []
row_sends tables calls a zero none = refl
row_sends tables calls a (suc n) none =
    sendings_join tables (calls a) (flat_map calls (range_with_len (a + 1) n)) [] []
    (quiet_sends tables (calls a) (none a (omega arith) (omega arith)))
    (row_sends tables calls (a + 1) n (λ k low high. none k (omega (arith, low)) (omega (arith, high))))

-- a row without an export sends nothing, whatever was sent before
pub row_sent : (tables : List TableDecl) (calls : ℕ → List Call) (count : ℕ) (exported : Option (List ℕ))
    → ((k : ℕ) → k < count → list_any is_export (asked_in (calls (k + 1))) ≡ false)
    → SentBy tables (calls_of count calls) exported exported
row_sent tables calls count exported none = record {
  bytes = [];
  sent = Appends-nil exported;
  by_calls = row_sends tables calls 1 count
      (λ k low high. subst (λ n. list_any is_export (asked_in (calls n)) ≡ false) (let e : (k - 1) + 1 ≡ k = omega (arith, low) in e)
      (none (k - 1) (omega (arith, low, high))));
}
