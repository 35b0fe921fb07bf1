-- The desk's snapshots after a begin and after an end.
use Rattle.std.proofs.Common.{◌≡◌, ◌≢◌, ◌⊎◌, ℕ, ◌+◌, ◌-◌, ◌≤◌, Bool, true, false, ◌==◌, Option, None, Some, get_or-set_same, get_or-set_other, refl, sym, ap, ◌∙◌, arith}
use mathlib.Core.Logic.{inl, inr}
use Rattle.std.proofs.lemmas.Bool.Decides.{nat_tests}
use Rattle.txn_desk.specs.Desk.{DeskState}
use Rattle.txn_desk.specs.Oldest.{HasPass, snapshot_of}
use Rattle.txn_desk.specs.declared.Snapshot.{Snapshot}
use Rattle.event_spec.specs.Effects.{opened, closed, numbered}
use Rattle.event_spec.specs.Follows.{IsLive}
use Rattle.isolation_spec.specs.Contents.{PlaceMap}

-- two numbers are the same or not
pub same_number : (a b : ℕ) → (a ≡ b) ⊎ (a ≢ b)
same_number a b = go (a == b) refl
  where
    go : (t : Bool) → (a == b) ≡ t → (a ≡ b) ⊎ (a ≢ b)
    go true e = inl (grind (arith, nat_tests))
    go false e = inr (λ s. absurd (grind (arith, nat_tests)))

-- a begin opens a snapshot with the newest stamp and the number of commits
pub opened_own : (q : ℕ) (desk : DeskState) → HasPass desk q → snapshot_of (opened q desk) q ≡ Some (record { stamp = desk.newest; number = desk.commits })
opened_own q desk pass = get_or-set_same desk.open_snapshots (q - 1) (Some (record { stamp = desk.newest; number = desk.commits })) None (let a = pass.0 in let b = pass.1 in omega (arith, a, b))

-- a begin leaves the snapshots of others
pub opened_other : (q r : ℕ) (desk : DeskState) → 1 ≤ q → 1 ≤ r → r ≢ q → snapshot_of (opened q desk) r ≡ snapshot_of desk r
opened_other q r desk a b ne = get_or-set_other desk.open_snapshots (q - 1) (r - 1) (Some (record { stamp = desk.newest; number = desk.commits })) None (λ e. ne (omega (arith, e, a, b)))

-- who ended has no snapshot
pub closed_own : (q : ℕ) (desk : DeskState) → HasPass desk q → snapshot_of (closed q desk) q ≡ None
closed_own q desk pass = get_or-set_same desk.open_snapshots (q - 1) None None (let a = pass.0 in let b = pass.1 in omega (arith, a, b))

-- an end leaves the snapshots of others
pub closed_other : (q r : ℕ) (desk : DeskState) → 1 ≤ q → 1 ≤ r → r ≢ q → snapshot_of (closed q desk) r ≡ snapshot_of desk r
closed_other q r desk a b ne = get_or-set_other desk.open_snapshots (q - 1) (r - 1) None None (λ e. ne (omega (arith, e, a, b)))

-- nothing is not something
pub none_not : {X : Type 0} (a : Option X) (x : X) → a ≡ None → a ≡ Some x → ⊥
none_not a x n s = cc

-- what two `Some` hold is the same
pub some_is : (a b : Snapshot) → Some a ≡ Some b → a ≡ b
some_is a b e = cc

-- the snapshots after a begin were live before it
pub live_opened : (q : ℕ) (desk : DeskState) (stamp number : ℕ) → HasPass desk q → IsLive (opened q desk) stamp number → IsLive desk stamp number
live_opened q desk stamp number pass (inl newest) = inl newest
live_opened q desk stamp number pass (inr open') = go (same_number open'.0 q)
  where
    go : (open'.0 ≡ q) ⊎ (open'.0 ≢ q) → IsLive desk stamp number
    go (inl e) =
        let is : record { stamp = desk.newest; number = desk.commits } ≡ record { stamp = stamp; number = number } =
        some_is (record { stamp = desk.newest; number = desk.commits }) (record { stamp = stamp; number = number })
        (sym (opened_own q desk pass) ∙ ap (snapshot_of (opened q desk)) (sym e) ∙ open'.2) in
        inl (sym (ap (λ (s : Snapshot). s.stamp) is), sym (ap (λ (s : Snapshot). s.number) is))
    go (inr ne) = inr (open'.0, open'.1, sym (opened_other q open'.0 desk pass.0 open'.1 ne) ∙ open'.2)

-- and those after an end
pub live_closed : (q : ℕ) (desk : DeskState) (stamp number : ℕ) → HasPass desk q → IsLive (closed q desk) stamp number → IsLive desk stamp number
live_closed q desk stamp number pass (inl newest) = inl newest
live_closed q desk stamp number pass (inr open') = go (same_number open'.0 q)
  where
    go : (open'.0 ≡ q) ⊎ (open'.0 ≢ q) → IsLive desk stamp number
    go (inl e) = absurd (none_not (snapshot_of (closed q desk) q) (record { stamp = stamp; number = number }) (closed_own q desk pass) (ap (snapshot_of (closed q desk)) (sym e) ∙ open'.2))
    go (inr ne) = inr (open'.0, open'.1, sym (closed_other q open'.0 desk pass.0 open'.1 ne) ∙ open'.2)

-- after a commit that wrote the newest is its own, and the others were live
pub live_numbered : (q : ℕ) (desk : DeskState) (writes : PlaceMap ℕ) (stamp number : ℕ) → HasPass desk q → IsLive (closed q (numbered writes desk)) stamp number
    → ((stamp ≡ desk.newest + 1) × (number ≡ desk.commits + 1)) ⊎ ((r : ℕ) × (1 ≤ r) × (r ≢ q) × (snapshot_of desk r ≡ Some (record { stamp = stamp; number = number })))
live_numbered q desk writes stamp number pass (inl newest) = inl newest
live_numbered q desk writes stamp number pass (inr open') = go (same_number open'.0 q)
  where
    go : (open'.0 ≡ q) ⊎ (open'.0 ≢ q) → ((stamp ≡ desk.newest + 1) × (number ≡ desk.commits + 1)) ⊎ ((r : ℕ) × (1 ≤ r) × (r ≢ q) × (snapshot_of desk r ≡ Some (record { stamp = stamp; number = number })))
    go (inl e) = absurd (none_not (snapshot_of (closed q (numbered writes desk)) q) (record { stamp = stamp; number = number }) (closed_own q (numbered writes desk) pass) (ap (snapshot_of (closed q (numbered writes desk))) (sym e) ∙ open'.2))
    go (inr ne) = inr (open'.0, open'.1, ne, sym (closed_other q open'.0 (numbered writes desk) pass.0 open'.1 ne) ∙ open'.2)
