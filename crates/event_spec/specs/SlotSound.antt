-- What holds of each slot at any time.
use Rattle.std.specs.Prelude.{◌≡◌, ℕ, ◌≤◌, ℤ, List, [], ◌∷◌, Option, All, IfNone, IfSome, ◌||◌}
use Rattle.std.specs.Prelude.{true, is_some}
use Rattle.block_spec.specs.declared.change.Before.{Before}
use Rattle.block_spec.specs.Fitting.{BeforeFits}
use Rattle.block_spec.specs.Slots.{Slot, Row, laid_back}
use Rattle.cell_model.specs.declared.column.Column.{Column}
use Rattle.cell_model.specs.Rows.{Fits}
use Rattle.isolation_spec.specs.Contents.{key_of}
use Rattle.undo_chain.specs.declared.undo.Undo.{Undo}
use Rattle.undo_chain.specs.Lawful.{IsLawful, NoneStampedAbove}

-- Each version of a slot's row has this key: the current one, and what each before-image leaves. A
-- change has a row before or after it.
abbrev pub Keyed : ℤ → Option Row → List (Undo Before) → Type 0
Keyed key row [] = IfSome row (λ cells. key_of cells ≡ key)
Keyed key row (e ∷ es) =
    IfSome row (λ cells. key_of cells ≡ key)
    × ((is_some row || is_some (laid_back row e.before)) ≡ true)
    × Keyed key (laid_back row e.before) es

-- Each version of a slot's row fits the columns, and so does what each before-image lays back.
abbrev pub VersionsFit : List Column → Option Row → List (Undo Before) → Type 0
VersionsFit columns row [] = IfSome row (Fits columns)
VersionsFit columns row (e ∷ es) =
    IfSome row (Fits columns) × BeforeFits columns e.before
    × VersionsFit columns (laid_back row e.before) es

-- an uncommitted entry is of a session, which count from 1
abbrev pub IsOfSession : Undo Before → Type 0
IsOfSession undo = IfNone undo.stamp (1 ≤ undo.session)

-- The chain is lawful, its stamps and numbers were given out, and its uncommitted entries are of
-- sessions.
pub record IsSoundSlot (newest commits : ℕ) (slot : Slot) : Type 0 where
  pub lawful : IsLawful slot.entries
  pub stamps : NoneStampedAbove slot.entries newest
  pub numbers : All (λ undo. undo.number ≤ commits) slot.entries
  pub sessions : All IsOfSession slot.entries
