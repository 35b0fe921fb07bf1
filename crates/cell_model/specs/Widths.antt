-- How wide the values of a column are: a number, an offset of a text or of bytes, and a value where
-- all have equally many bytes.
use Rattle.std.specs.Prelude.{ℕ, ◌-◌, ◌^◌, Bool, ◌&&◌, nat_le}
use Rattle.std.specs.Int.{Width, w8, w16, w32, w64}
use Rattle.cell_model.specs.declared.width.NumberWidth.{NumberWidth}
use Rattle.cell_model.specs.declared.width.NumberWidth.TheVariants as number
use Rattle.cell_model.specs.declared.width.OffsetWidth.{OffsetWidth}
use Rattle.cell_model.specs.declared.width.OffsetWidth.TheVariants as offset

abbrev pub number_width : NumberWidth → Width
number_width number.Bits8 = w8
number_width number.Bits16 = w16
number_width number.Bits32 = w32
number_width number.Bits64 = w64

abbrev pub offset_width : OffsetWidth → Width
offset_width offset.Bits32 = w32
offset_width offset.Bits64 = w64

-- the most bytes of a value whose offsets have 32 bits, and of a name
abbrev pub most_bytes : ℕ
most_bytes = 2 ^ 16 - 1

-- the most bytes of a value between offsets of a width
abbrev pub most_between : OffsetWidth → ℕ
most_between offset.Bits32 = most_bytes
most_between offset.Bits64 = 2 ^ 20

-- so many bytes may each value of a column have
abbrev pub is_byte_width : ℕ → Bool
is_byte_width bytes = nat_le 1 bytes && nat_le bytes 1024
