-- A step leaves open what it does not end, and a read leaves the machine.
use Rattle.std.proofs.Common.{◌≡◌, ◌⊎◌, inl, inr, ℕ, Bool, true, false, cond, eqb, List, [], ◌∷◌, Option, None, Some, refl, ap, ◌∙◌}
use Rattle.std.specs.Prelude.{is_some, option_map}
use Rattle.std.specs.Option.{option_or}
use Rattle.cell_model.specs.declared.cell.Cell.{Cell}
use Rattle.isolation_spec.specs.Checked.{read_asked}
use Rattle.isolation_spec.specs.Contents.{WriteSet, place_at, place_of}
use Rattle.isolation_spec.specs.Machine.{IsolationMachine, Transaction, commit, step, step_of, step_within, transaction_of, refusal_of_insert, refusal_of_change, write}
use Rattle.isolation_spec.specs.declared.command.Act.{Act}
use Rattle.isolation_spec.specs.declared.command.Act.TheVariants as act
use Rattle.isolation_spec.specs.declared.command.Answer.{Answer}
use Rattle.isolation_spec.specs.declared.place.Place.{Place}
use Rattle.isolation_spec.specs.declared.read.Read.{Read}
use Rattle.timeline_laws.proofs.Machine.{at-begun, at-ended, at-written, entering, its-session}
use Rattle.timeline_laws.proofs.Steps.{asks}

-- the act ends a transaction
abbrev pub ends : Act → Bool
ends act.Commit = true
ends act.Abort = true
ends (act.Begin checked) = false
ends (act.Get table key) = false
ends (act.Scan table) = false
ends (act.Range table low high) = false
ends (act.Total table column low high) = false
ends (act.Insert table row) = false
ends (act.Update table row) = false
ends (act.Delete table key) = false

-- What is open, or else something, is open.
or-open : (old new : Option Transaction) → is_some old ≡ true → is_some (option_or old new) ≡ true
or-open None new h = absurd (let never : ⊥ = cc in never)
or-open (Some t) new h = refl

-- A change of what is open leaves it open.
map-open : (f : Transaction → Transaction) (o : Option Transaction) → is_some o ≡ true → is_some (option_map f o) ≡ true
map-open f None h = absurd (let never : ⊥ = cc in never)
map-open f (Some t) h = refl

module _ (machine : IsolationMachine) (session other : ℕ) (open_is : is_some (transaction_of other machine) ≡ true) where
  -- A write leaves open what is open, refused or not.
  write-open : (t : Transaction) (place : Place) (change : Option (List Cell)) (refusal : Option Answer) → is_some (transaction_of other (write machine t place change refusal).1) ≡ true
  write-open t place change (Some refused) = open_is
  write-open t place change None = ap is_some (at-written t.session place change other machine) ∙ map-open (entering t.session place change) (transaction_of other machine) open_is

  -- An end leaves open what others have open.
  end-open : (t : Transaction) → transaction_of session machine ≡ Some t → eqb other session ≡ false → (after : IsolationMachine) → transaction_of other after ≡ cond (eqb other t.session) None (transaction_of other machine)
      → is_some (transaction_of other after) ≡ true
  end-open t at apart after is =
      ap is_some (is ∙ ap (λ (s : ℕ). cond (eqb other s) None (transaction_of other machine)) (its-session session machine.open_transactions t at) ∙ ap (λ (b : Bool). cond b None (transaction_of other machine)) apart) ∙ open_is

  -- A commit leaves open what others have open.
  commit-open : (t : Transaction) (own : WriteSet) → transaction_of session machine ≡ Some t → eqb other session ≡ false → is_some (transaction_of other (commit machine t own).1) ≡ true
  commit-open t [] at apart = end-open t at apart (commit machine t []).1 (at-ended t.session other machine)
  commit-open t (first ∷ rest) at apart = end-open t at apart (commit machine t (first ∷ rest)).1 (at-ended t.session other machine)

  -- A step leaves open what is open, but what an end ends.
  stays-by : (asked : Act) (found : Option Transaction) → transaction_of session machine ≡ found → (ends asked ≡ false) ⊎ (eqb other session ≡ false)
      → is_some (transaction_of other (step_of machine (asks session asked) found).1) ≡ true
  stays-by (act.Begin checked) None at h = ap is_some (at-begun session other machine) ∙ or-open (transaction_of other machine) _ open_is
  stays-by (act.Get table key) None at h = open_is
  stays-by (act.Scan table) None at h = open_is
  stays-by (act.Range table low high) None at h = open_is
  stays-by (act.Total table column low high) None at h = open_is
  stays-by (act.Insert table row) None at h = open_is
  stays-by (act.Update table row) None at h = open_is
  stays-by (act.Delete table key) None at h = open_is
  stays-by act.Commit None at h = open_is
  stays-by act.Abort None at h = open_is
  stays-by (act.Begin checked) (Some t) at h = open_is
  stays-by (act.Get table key) (Some t) at h = open_is
  stays-by (act.Scan table) (Some t) at h = open_is
  stays-by (act.Range table low high) (Some t) at h = open_is
  stays-by (act.Total table column low high) (Some t) at h = open_is
  stays-by (act.Insert table row) (Some t) at h = write-open t (place_of table row) (Some row) (refusal_of_insert machine t (place_of table row))
  stays-by (act.Update table row) (Some t) at h = write-open t (place_of table row) (Some row) (refusal_of_change machine t (place_of table row))
  stays-by (act.Delete table key) (Some t) at h = write-open t (place_at table key) None (refusal_of_change machine t (place_at table key))
  stays-by act.Commit (Some t) at (inl h) = absurd (let never : ⊥ = cc in never)
  stays-by act.Commit (Some t) at (inr apart) = commit-open t t.own at apart
  stays-by act.Abort (Some t) at (inl h) = absurd (let never : ⊥ = cc in never)
  stays-by act.Abort (Some t) at (inr apart) = end-open t at apart (step_within machine t act.Abort).1 (at-ended t.session other machine)

  -- what is open is open behind a step that does not end it
  pub stays-open : (asked : Act) → (ends asked ≡ false) ⊎ (eqb other session ≡ false) → is_some (transaction_of other (step machine (asks session asked)).1) ≡ true
  stays-open asked h = stays-by asked (transaction_of session machine) refl h

-- a read leaves the machine as it is
pub read-leaves : (machine : IsolationMachine) (session : ℕ) (asked : Act) (what : Read) → read_asked asked ≡ Some what → (step machine (asks session asked)).1 ≡ machine
read-leaves machine session asked what is = by asked (transaction_of session machine) is
  where
    by : (asked : Act) (found : Option Transaction) → read_asked asked ≡ Some what → (step_of machine (asks session asked) found).1 ≡ machine
    by (act.Get table key) None e = refl
    by (act.Get table key) (Some t) e = refl
    by (act.Scan table) None e = refl
    by (act.Scan table) (Some t) e = refl
    by (act.Range table low high) None e = refl
    by (act.Range table low high) (Some t) e = refl
    by (act.Total table column low high) None e = refl
    by (act.Total table column low high) (Some t) e = refl
    by _ found e = absurd (let never : ⊥ = cc in never)
