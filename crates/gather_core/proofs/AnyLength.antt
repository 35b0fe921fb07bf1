-- Values of any length, between offsets of a width.
use Rattle.std.proofs.Common.{◌≡◌, refl, ap}
use Rattle.cell_model.specs.declared.cell.Cell.{Cell}
use Rattle.cell_model.specs.declared.values.Values.{Values}
use Rattle.cell_model.specs.declared.values.Values.TheVariants.{Signed, Unsigned, Truths, Texts, Blobs, Strips}
use Rattle.cell_model.specs.declared.width.OffsetWidth.{OffsetWidth}
use Rattle.cell_model.specs.declared.width.OffsetWidth.TheVariants as offset
use Rattle.cell_model.specs.Kinds.{most_bytes_in}
use Rattle.cell_model.specs.Widths.{most_between, offset_width}
use Rattle.arrow_spec.specs.Arrays.{layout_in, value_of, variable}
use Rattle.block_columns.specs.Cells.{own_bytes}

-- Offsets of one width are one sort of offsets.
one_width : (u w : OffsetWidth) → offset_width u ≡ offset_width w → u ≡ w
one_width offset.Bits32 offset.Bits32 same = refl
one_width offset.Bits32 offset.Bits64 same = cc
one_width offset.Bits64 offset.Bits32 same = cc
one_width offset.Bits64 offset.Bits64 same = refl

-- The layout of values between offsets is of the offsets' width.
width_in : (u w : OffsetWidth) → variable (offset_width u) ≡ variable (offset_width w) → most_between u ≡ most_between w
width_in u w same = let e : offset_width u ≡ offset_width w = cc in ap most_between (one_width u w e)

-- such values have bytes of their own, at most so many
pub any_length : (v : Values) (w : OffsetWidth) → layout_in v ≡ variable (offset_width w)
    → ((c : Cell) → own_bytes v c ≡ value_of c) × (most_bytes_in v ≡ most_between w)
any_length (Signed u) w same = let no : ⊥ = cc in absurd no
any_length (Unsigned u) w same = let no : ⊥ = cc in absurd no
any_length Truths w same = let no : ⊥ = cc in absurd no
any_length (Texts u) w same = ((λ c. refl), width_in u w same)
any_length (Blobs u) w same = ((λ c. refl), width_in u w same)
any_length (Strips n) w same = let no : ⊥ = cc in absurd no
