-- What the desk has of a session.
use Rattle.std.proofs.Common.{◌≡◌, ℕ, zero, suc, ◌≤◌, Option, None, Some, option_map, refl, arith}
use Rattle.std.specs.Prelude.{IsSome, IsSomeAnd}
use Rattle.event_spec.specs.Lawful.{Opened, transaction, writes_of}
use Rattle.event_spec.specs.Parts.{Parts, Shape, desk_at}
use Rattle.txn_desk.specs.declared.Snapshot.{Snapshot}
use Rattle.txn_desk.specs.Oldest.{snapshot_of}

-- What a session has open with this snapshot: the snapshot, and what it wrote.
abbrev opened_as : Shape → Parts → ℕ → Snapshot → Opened
opened_as sh s q snapshot = record { snapshot = snapshot; writes = writes_of sh s q }

-- without a transaction there is no snapshot
pub no_snapshot : (sh : Shape) (s : Parts) (q : ℕ) → 1 ≤ q → transaction sh s q ≡ None → snapshot_of (desk_at sh s) q ≡ None
no_snapshot sh s zero low none = absurd (omega (arith, low))
no_snapshot sh s (suc n) low none = go (snapshot_of (desk_at sh s) (suc n)) none
  where
    some_not : (x : Opened) → Some x ≡ None → ⊥
    some_not x e = cc

    go : (o : Option Snapshot) → option_map (λ snapshot. opened_as sh s (suc n) snapshot) o ≡ None → o ≡ None
    go None e = refl
    go (Some x) e = absurd (some_not (opened_as sh s (suc n) x) e)

-- and with one there is
pub some_snapshot : (sh : Shape) (s : Parts) (q : ℕ) (P : Opened → Type 0) → IsSomeAnd (transaction sh s q) P → IsSome (snapshot_of (desk_at sh s) q)
some_snapshot sh s zero P has = absurd has
some_snapshot sh s (suc n) P has = go (snapshot_of (desk_at sh s) (suc n)) has
  where
    go : (o : Option Snapshot) → IsSomeAnd (option_map (λ snapshot. opened_as sh s (suc n) snapshot) o) P → IsSome o
    go None e = absurd e
    go (Some x) e = refl
