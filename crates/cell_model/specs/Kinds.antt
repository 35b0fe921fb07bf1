-- What the values of each kind are.
use Rattle.std.specs.Prelude.{ℕ, ◌*◌, Bool, true, false, ◌==◌, List, [], ◌∷◌}
use Rattle.std.specs.Int.{byte_len}
use Rattle.cell_model.specs.Widths.{number_width, most_between, is_byte_width}
use Rattle.cell_model.specs.declared.kind.Kind.{Kind}
use Rattle.cell_model.specs.declared.kind.Kind.TheVariants as kind
use Rattle.cell_model.specs.declared.values.Values.{Values}
use Rattle.cell_model.specs.declared.values.Values.TheVariants.{Signed, Unsigned, Truths}
use Rattle.cell_model.specs.declared.values.Values.TheVariants.{Texts, Blobs, Strips}
use Rattle.cell_model.specs.declared.width.NumberWidth.TheVariants as number
use Rattle.cell_model.specs.declared.width.OffsetWidth.TheVariants as offset

-- each kind but those of so many bytes each, in the order of its type
abbrev pub kinds : List Kind
kinds = kind.I8 ∷ kind.I16 ∷ kind.I32 ∷ kind.I64 ∷ kind.U8 ∷ kind.U16 ∷ kind.U32 ∷ kind.U64
    ∷ kind.Bool ∷ kind.Utf8 ∷ kind.Binary ∷ kind.LargeUtf8 ∷ kind.LargeBinary ∷ kind.Date ∷ []

-- The table of kinds: what the values of each are.
abbrev pub values_of : Kind → Values
values_of kind.I8 = Signed number.Bits8
values_of kind.I16 = Signed number.Bits16
values_of kind.I32 = Signed number.Bits32
values_of kind.I64 = Signed number.Bits64
values_of kind.U8 = Unsigned number.Bits8
values_of kind.U16 = Unsigned number.Bits16
values_of kind.U32 = Unsigned number.Bits32
values_of kind.U64 = Unsigned number.Bits64
values_of kind.Bool = Truths
values_of kind.Utf8 = Texts offset.Bits32
values_of kind.Binary = Blobs offset.Bits32
values_of kind.LargeUtf8 = Texts offset.Bits64
values_of kind.LargeBinary = Blobs offset.Bits64
values_of (kind.Fixed bytes) = Strips bytes
values_of kind.Date = Signed number.Bits32

abbrev pub are_truths : Values → Bool
are_truths (Signed width) = false
are_truths (Unsigned width) = false
are_truths Truths = true
are_truths (Texts width) = false
are_truths (Blobs width) = false
are_truths (Strips bytes) = false

abbrev pub are_texts : Values → Bool
are_texts (Signed width) = false
are_texts (Unsigned width) = false
are_texts Truths = false
are_texts (Texts width) = true
are_texts (Blobs width) = false
are_texts (Strips bytes) = false

-- so many bytes that are no text may be one of these values
abbrev pub takes_bytes : Values → ℕ → Bool
takes_bytes (Signed width) count = false
takes_bytes (Unsigned width) count = false
takes_bytes Truths count = false
takes_bytes (Texts width) count = false
takes_bytes (Blobs width) count = true
takes_bytes (Strips bytes) count = count == bytes

-- The most bytes of a text or a blob among these values; a number and a truth value have none.
abbrev pub most_bytes_in : Values → ℕ
most_bytes_in (Signed width) = 0
most_bytes_in (Unsigned width) = 0
most_bytes_in Truths = 0
most_bytes_in (Texts width) = most_between width
most_bytes_in (Blobs width) = most_between width
most_bytes_in (Strips bytes) = bytes

-- where all have equally many bytes, these are a width that there is
abbrev pub has_width : Values → Bool
has_width (Signed width) = true
has_width (Unsigned width) = true
has_width Truths = true
has_width (Texts width) = true
has_width (Blobs width) = true
has_width (Strips bytes) = is_byte_width bytes

-- how many bits of a block a value takes; an entry of a variable-length value takes 16 bytes
abbrev pub bits_in : Values → ℕ
bits_in (Signed width) = 8 * byte_len (number_width width)
bits_in (Unsigned width) = 8 * byte_len (number_width width)
bits_in Truths = 1
bits_in (Texts width) = 128
bits_in (Blobs width) = 128
bits_in (Strips bytes) = 8 * bytes
