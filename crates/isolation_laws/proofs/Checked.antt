-- Commits that hand in what their transactions read: where they are the machine's, and what a
-- stale one names.
use Rattle.std.proofs.Common.{◌≡◌, ℕ, List, [], ◌∷◌, ◌++◌, Option, None, Some, All, refl, sym, ap, ◌∙◌}
use Rattle.std.specs.Prelude.{option_map, option_and_then}
use Rattle.std.specs.Option.{option_or}
use Rattle.std.proofs.lemmas.List.Elements.{All-nil, All-cons}
use Rattle.isolation_spec.specs.Checked.{step_with, stale_of, stale_read}
use Rattle.isolation_spec.specs.Contents.{WriteSet}
use Rattle.isolation_spec.specs.Machine.{IsolationMachine, Transaction, step, transaction_of}
use Rattle.isolation_spec.specs.Reads.{ReadSet, first_stale}
use Rattle.isolation_spec.specs.declared.command.Act.TheVariants as act
use Rattle.isolation_spec.specs.declared.command.Answer.{Answer}
use Rattle.isolation_spec.specs.declared.command.Answer.TheVariants as answer
use Rattle.isolation_spec.specs.declared.command.Command.{Command}
use Rattle.isolation_spec.specs.declared.read.Read.{Read}

-- a session commits
abbrev pub committing : ℕ → Command
committing session = record { session = session; act = act.Commit }

-- the answer and the machine behind it where a commit is refused so, or not
abbrev by_stale : IsolationMachine → ℕ → Option (Read × ℕ) → Answer × IsolationMachine
by_stale machine session stale = elim stale [ Some found ↦ (answer.Stale found.0 found.1, machine) | None ↦ step machine (committing session) ]

-- a commit that is not refused is the machine's
pub commit-stands : (machine : IsolationMachine) (reads : Option ReadSet) (session : ℕ) → stale_of machine reads session act.Commit ≡ None
    → step_with machine reads (committing session) ≡ step machine (committing session)
commit-stands machine reads session none = ap (by_stale machine session) none

-- one that is refused changes nothing
pub commit-refused : (machine : IsolationMachine) (reads : Option ReadSet) (session : ℕ) (stale : Read × ℕ) → stale_of machine reads session act.Commit ≡ Some stale
    → step_with machine reads (committing session) ≡ (answer.Stale stale.0 stale.1, machine)
commit-refused machine reads session stale is = ap (by_stale machine session) is

-- why a commit is refused where the session has a transaction open, or none
abbrev by_open : IsolationMachine → Option ReadSet → Option Transaction → Option (Read × ℕ)
by_open machine reads found = option_and_then (λ (t : Transaction). stale_read machine t t.own reads) found

-- why the commit of an open transaction is refused
pub stale-open : (machine : IsolationMachine) (reads : Option ReadSet) (session : ℕ) (t : Transaction) → transaction_of session machine ≡ Some t
    → stale_of machine reads session act.Commit ≡ stale_read machine t t.own reads
stale-open machine reads session t at = ap (by_open machine reads) at

-- without one it is not
pub stale-closed : (machine : IsolationMachine) (reads : Option ReadSet) (session : ℕ) → transaction_of session machine ≡ None → stale_of machine reads session act.Commit ≡ None
stale-closed machine reads session at = ap (by_open machine reads) at

-- nor where it handed in no reads
pub unread : (machine : IsolationMachine) (t : Transaction) (own : WriteSet) → stale_read machine t own None ≡ None
unread machine t [] = refl
unread machine t (first ∷ rest) = refl

-- a plain transaction's commit is not refused
pub plain-stands : (machine : IsolationMachine) (session : ℕ) → stale_of machine None session act.Commit ≡ None
plain-stands machine session = by-found (transaction_of session machine)
  where
    by-found : (found : Option Transaction) → by_open machine None found ≡ None
    by-found None = refl
    by-found (Some t) = unread machine t t.own

-- a commit that hands in no reads is the machine's
pub plain_commit : (machine : IsolationMachine) (session : ℕ) (reads : Option ReadSet) (told : Answer × IsolationMachine) → reads ≡ None
    → step machine (committing session) ≡ told → step_with machine reads (committing session) ≡ told
plain_commit machine session reads told none same =
    commit-stands machine reads session (ap (λ (r : Option ReadSet). stale_of machine r session act.Commit) none ∙ plain-stands machine session) ∙ same

-- ---- the first stale read

-- a read that was found stale: where it is among the reads, and the last commit that met it
pub record FoundStale (last_of : Read → Option ℕ) (reads : List Read) (stale : Read × ℕ) : Type 0 where
  pub front : List Read
  pub rest : List Read
  pub among : reads ≡ front ++ stale.0 ∷ rest
  pub last : last_of stale.0 ≡ Some stale.1

-- the first stale read is one of the reads, and its number that of the last commit that met it
pub first-found : (last_of : Read → Option ℕ) (reads : List Read) (stale : Read × ℕ) → first_stale last_of reads ≡ Some stale → FoundStale last_of reads stale
first-found last_of [] stale is = absurd (let never : ⊥ = cc in never)
first-found last_of (what ∷ reads) stale is = by-last (first-found last_of reads stale) (last_of what) refl is
  where
    by-last : (first_stale last_of reads ≡ Some stale → FoundStale last_of reads stale) → (found : Option ℕ) → last_of what ≡ found
        → option_or (option_map (λ (number : ℕ). (what, number)) found) (first_stale last_of reads) ≡ Some stale → FoundStale last_of (what ∷ reads) stale
    by-last later None at rest =
        let behind = later rest in
        record { front = what ∷ behind.front; rest = behind.rest; among = ap (λ (later : List Read). what ∷ later) behind.among; last = behind.last }
    by-last later (Some number) at here =
        let same : (what, number) ≡ stale = let e : Some (what, number) ≡ Some stale = here in cc in
        record {
          front = [];
          rest = reads;
          among = ap (λ (s : Read × ℕ). s.0 ∷ reads) same;
          last = ap (λ (s : Read × ℕ). last_of s.0) (sym same) ∙ at ∙ ap (λ (s : Read × ℕ). Some s.1) same;
        }

-- where none is stale, no commit met any of the reads
pub none-found : (last_of : Read → Option ℕ) (reads : List Read) → first_stale last_of reads ≡ None → All (λ what. last_of what ≡ None) reads
none-found last_of [] is = All-nil (λ what. last_of what ≡ None)
none-found last_of (what ∷ reads) is = by-last (none-found last_of reads) (last_of what) refl is
  where
    by-last : (first_stale last_of reads ≡ None → All (λ other. last_of other ≡ None) reads) → (found : Option ℕ) → last_of what ≡ found
        → option_or (option_map (λ (number : ℕ). (what, number)) found) (first_stale last_of reads) ≡ None → All (λ other. last_of other ≡ None) (what ∷ reads)
    by-last later None at rest = All-cons (λ other. last_of other ≡ None) what reads at (later rest)
    by-last later (Some number) at here = absurd (let e : Some (what, number) ≡ None = here in let never : ⊥ = cc in never)
