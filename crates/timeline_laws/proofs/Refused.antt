-- Why a commit is refused: a read that it hands in was met by a commit behind its snapshot; and
-- what holds of its reads where it is not.
use Rattle.std.proofs.Common.{◌≡◌, ℕ, List, [], ◌∷◌, Option, None, Some, false, All, refl}
use Rattle.cell_model.specs.declared.cell.Cell.{Cell}
use Rattle.isolation_spec.specs.Checked.{stale_read}
use Rattle.isolation_spec.specs.Contents.{WriteSet}
use Rattle.isolation_spec.specs.Machine.{IsolationMachine, Transaction}
use Rattle.isolation_spec.specs.Reads.{ReadSet, meets, reads_in, last_meeting}
use Rattle.isolation_spec.specs.declared.place.Place.{Place}
use Rattle.isolation_spec.specs.declared.read.Read.{Read}
use Rattle.isolation_spec.specs.declared.read.Read.TheVariants as read
use Rattle.isolation_laws.proofs.Checked.{FoundStale, first-found, none-found}

-- a commit is refused for this read and this number: it wrote something, and handed in the read
pub record Refused (machine : IsolationMachine) (t : Transaction) (reads : Option ReadSet) (stale : Read × ℕ) : Type 0 where
  pub first : Place × Option (List Cell)
  pub rest : WriteSet
  pub wrote : t.own ≡ first ∷ rest
  pub set : ReadSet
  pub reads_are : reads ≡ Some set
  pub found : FoundStale (last_meeting machine.history t.snapshot) (reads_in set) stale

-- a commit that is refused is so for a read
pub refused-is : (machine : IsolationMachine) (t : Transaction) (own : WriteSet) (reads : Option ReadSet) (stale : Read × ℕ) → t.own ≡ own → stale_read machine t own reads ≡ Some stale
    → Refused machine t reads stale
refused-is machine t [] reads stale own is = absurd (let never : ⊥ = cc in never)
refused-is machine t (first ∷ rest) None stale own is = absurd (let e : None ≡ Some stale = is in let never : ⊥ = cc in never)
refused-is machine t (first ∷ rest) (Some set) stale own is = record {
  first = first;
  rest = rest;
  wrote = own;
  set = set;
  reads_are = refl;
  found = first-found (last_meeting machine.history t.snapshot) (reads_in set) stale is;
}

-- of the reads of writes that are not refused, no commit behind the snapshot met any
pub unmet-reads : (machine : IsolationMachine) (t : Transaction) (first : Place × Option (List Cell)) (rest : WriteSet) (set : ReadSet)
    → stale_read machine t (first ∷ rest) (Some set) ≡ None → All (λ what. last_meeting machine.history t.snapshot what ≡ None) (reads_in set)
unmet-reads machine t first rest set none = none-found (last_meeting machine.history t.snapshot) (reads_in set) none

-- nothing that was written meets no read
pub meets-none : (what : Read) → meets what [] ≡ false
meets-none (read.Key table key) = refl
meets-none (read.Table table) = refl
meets-none (read.Range table low high) = refl
