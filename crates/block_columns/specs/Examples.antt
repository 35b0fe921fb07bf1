-- Worked columns of values of each later kind: what is stored, and the cells that it is read as.
use Rattle.std.specs.Prelude.{◌≡◌, true, false, List, [], ◌∷◌, map, pos, codes}
use Rattle.cell_model.specs.declared.cell.Cell.{Cell}
use Rattle.cell_model.specs.declared.cell.Cell.TheVariants.{Null, Num, Text, Blob}
use Rattle.cell_model.specs.declared.kind.Kind.TheVariants as kind
use Rattle.cell_model.specs.Kinds.{values_of}
use Rattle.arrow_spec.specs.Arrays.{strip_of}
use Rattle.block_columns.specs.declared.store.Store.{Store}
use Rattle.block_columns.specs.declared.store.Store.TheVariants as store
use Rattle.block_columns.specs.Cells.{bytes_in, cells_in, own_bytes}

-- a value of two bytes and a null
abbrev pub strip_cells : List Cell
strip_cells = Blob (0x0a ∷ 0xff ∷ []) ∷ Null ∷ []

-- Both as two bytes each, of which a null's are zeros.
abbrev pub strips : Store
strips = store.Strips (record { width = 2; values = (0x0a ∷ 0xff ∷ []) ∷ (0x00 ∷ 0x00 ∷ []) ∷ [] })

abbrev pub StripsAreKept : Type 0
StripsAreKept = (map (strip_of 2) strip_cells ≡ (0x0a ∷ 0xff ∷ []) ∷ (0x00 ∷ 0x00 ∷ []) ∷ [])
    × (cells_in (kind.Fixed 2) (true ∷ false ∷ []) strips ≡ strip_cells)

-- 2022-01-08 and a null as numbers of 32 bits
abbrev pub dates : Store
dates = store.Numbers (record { width = 32; signed = true; values = pos 19000 ∷ pos 0 ∷ [] })

abbrev pub DatesAreKept : Type 0
DatesAreKept = cells_in kind.Date (true ∷ false ∷ []) dates ≡ Num (pos 19000) ∷ Null ∷ []

-- The values of the large kinds have bytes of their own, and are made of them again; strips have
-- none.
abbrev pub LargeValuesStandApart : Type 0
LargeValuesStandApart = (own_bytes (values_of kind.LargeUtf8) (Text (codes "ab")) ≡ codes "ab")
    × (bytes_in (values_of kind.LargeUtf8) (codes "ab") ≡ Text (codes "ab"))
    × (own_bytes (values_of kind.LargeBinary) (Blob (0xff ∷ [])) ≡ 0xff ∷ [])
    × (bytes_in (values_of kind.LargeBinary) (0xff ∷ []) ≡ Blob (0xff ∷ []))
    × (own_bytes (values_of (kind.Fixed 2)) (Blob (0x0a ∷ 0xff ∷ [])) ≡ [])
