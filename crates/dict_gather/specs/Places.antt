-- The values of a column, each with the slot in which it stands.
use Rattle.std.specs.Prelude.{ℕ, ◌+◌, List, [], ◌∷◌, if◌then◌else◌, map}
use Rattle.std.specs.Cmp.Lexicographic.{slice_cmp}
use Rattle.std.specs.Ordering.{nat_cmp, on}
use Rattle.std.specs.declared.cmp.Ordering.{Ordering}
use Rattle.arrow_spec.specs.Arrays.{value_of}
use Rattle.cell_model.specs.Values.{is_null}
use Rattle.cell_model.specs.declared.cell.Cell.{Cell}
use Rattle.arrow_spec.specs.Dictionaries.{dictionary_of, place_in}

-- a value, and the slot in which it stands
pub record PlacedValue : Type 0 where
  pub value : List ℕ
  pub slot : ℕ

-- placed values stand in the order of their bytes
abbrev pub place_cmp : PlacedValue → PlacedValue → Ordering
place_cmp = on (λ placed. placed.value) (slice_cmp nat_cmp)

-- the values of cells that stand from a slot on; a null has none
abbrev pub placed_from : ℕ → List Cell → List PlacedValue
placed_from slot [] = []
placed_from slot (cell ∷ cells) = if is_null cell then placed_from (slot + 1) cells
    else record { value = value_of cell; slot = slot } ∷ placed_from (slot + 1) cells

-- where each cell's value stands in their dictionary; 0 for a null
abbrev pub indices_of : List Cell → List ℕ
indices_of cells = map
    (λ cell. if is_null cell then 0 else place_in (dictionary_of cells) (value_of cell)) cells
