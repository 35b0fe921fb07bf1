-- Worked totals.
use Rattle.std.specs.Prelude.{◌≡◌, List, [], ◌∷◌, ◌++◌, None, Some, map, replicate, pos, negsuc}
use Rattle.cell_model.specs.declared.cell.Cell.{Cell}
use Rattle.cell_model.specs.declared.cell.Cell.TheVariants.{Null, Num}
use Rattle.cell_model.specs.declared.width.NumberWidth.TheVariants.{Bits8, Bits16, Bits32, Bits64}
use Rattle.cell_model.specs.Kinds.{kinds, values_of}
use Rattle.arrow_spec.specs.Arrays.{data_buffers, layout_in}
use Rattle.lane_filter.specs.declared.numbers.Numbers.TheVariants.{Signed, Unsigned}
use Rattle.lane_filter.specs.Totals.{numbers_among, numbers_between, values_in}

-- 5, null, -3, 5, 2147483647, -2147483648, 0, 1 and 9
abbrev pub nine : List Cell
nine = Num (pos 5) ∷ Null ∷ Num (negsuc 2) ∷ Num (pos 5) ∷ Num (pos 2147483647)
    ∷ Num (negsuc 2147483647) ∷ Num (pos 0) ∷ Num (pos 1) ∷ Num (pos 9) ∷ []

-- Both ends are counted and no null is, though zero lies between; none lies between ends turned
-- round.
abbrev pub TotalsAreOfNumbers : Type 0
TotalsAreOfNumbers =
    (numbers_between (negsuc 2) (pos 9) nine
    ≡ pos 5 ∷ negsuc 2 ∷ pos 5 ∷ pos 0 ∷ pos 1 ∷ pos 9 ∷ [])
    × (numbers_between (pos 9) (negsuc 2) nine ≡ [])

-- The signed and the unsigned integers of each width are numbers, and days are; truth values, texts
-- and bytes are none.
abbrev pub KindsHaveNumbers : Type 0
KindsHaveNumbers = map (λ kind. numbers_among (values_of kind)) kinds
    ≡ Some (Signed Bits8) ∷ Some (Signed Bits16) ∷ Some (Signed Bits32) ∷ Some (Signed Bits64)
    ∷ Some (Unsigned Bits8) ∷ Some (Unsigned Bits16) ∷ Some (Unsigned Bits32)
    ∷ Some (Unsigned Bits64) ∷ replicate 5 None ++ Some (Signed Bits32) ∷ []

-- The same byte is -1 among signed numbers and 255 among unsigned ones; 2022-01-08 and a null are
-- days of 32 bits.
abbrev pub BytesTellNumbers : Type 0
BytesTellNumbers =
    (data_buffers (layout_in (values_in (Signed Bits8))) (Num (negsuc 0) ∷ [])
    ≡ (0xff ∷ []) ∷ [])
    × (data_buffers (layout_in (values_in (Unsigned Bits8))) (Num (pos 255) ∷ [])
    ≡ (0xff ∷ []) ∷ [])
    × (data_buffers (layout_in (values_in (Signed Bits32))) (Num (pos 19000) ∷ Null ∷ [])
    ≡ (0x38 ∷ 0x4a ∷ 0 ∷ 0 ∷ 0 ∷ 0 ∷ 0 ∷ 0 ∷ []) ∷ [])
