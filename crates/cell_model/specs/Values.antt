-- Which cells are values of a kind.
use Rattle.std.specs.Prelude.{ℕ, Bool, true, false, ◌&&◌, ◌^◌, ◌-◌, ◌*◌, List, length, nat_lt, ℤ}
use Rattle.std.specs.Prelude.{pos, negsuc, int_le}
use Rattle.std.specs.Int.{Width, byte_len}
use Rattle.std.specs.List.{list_all}
use Rattle.std.specs.Str.{is_utf8}
use Rattle.cell_model.specs.Kinds.{values_of, are_truths, are_texts, takes_bytes, most_bytes_in}
use Rattle.cell_model.specs.Widths.{number_width}
use Rattle.cell_model.specs.declared.kind.Kind.{Kind}
use Rattle.cell_model.specs.declared.values.Values.{Values}
use Rattle.cell_model.specs.declared.values.Values.TheVariants.{Signed, Unsigned, Truths}
use Rattle.cell_model.specs.declared.values.Values.TheVariants.{Texts, Blobs, Strips}
use Rattle.cell_model.specs.declared.cell.Cell.{Cell}
use Rattle.cell_model.specs.declared.cell.Cell.TheVariants.{Null, Num, Truth, Text, Blob}

-- the number lies between these two, both counted
abbrev pub is_between : ℤ → ℤ → ℤ → Bool
is_between low high number = int_le low number && int_le number high

-- the number is a signed integer of a width
abbrev pub is_signed_of : Width → ℤ → Bool
is_signed_of width number =
    is_between (negsuc (2 ^ (8 * byte_len width - 1) - 1)) (pos (2 ^ (8 * byte_len width - 1) - 1))
    number

-- the number is an unsigned integer of a width
abbrev pub is_unsigned_of : Width → ℤ → Bool
is_unsigned_of width number = is_between (pos 0) (pos (2 ^ (8 * byte_len width) - 1)) number

-- the number is one of these integers; there is none among truth values, texts and bytes
abbrev pub is_integer_in : Values → ℤ → Bool
is_integer_in (Signed width) number = is_signed_of (number_width width) number
is_integer_in (Unsigned width) number = is_unsigned_of (number_width width) number
is_integer_in Truths number = false
is_integer_in (Texts width) number = false
is_integer_in (Blobs width) number = false
is_integer_in (Strips bytes) number = false

-- each number is a byte
abbrev pub are_bytes : List ℕ → Bool
are_bytes numbers = list_all (λ number. nat_lt number 256) numbers

-- The cell is one of the values: an integer of them, a truth value, a text in UTF-8, or bytes, just
-- so many where all have equally many.
abbrev pub is_value_in : Values → Cell → Bool
is_value_in values Null = false
is_value_in values (Num number) = is_integer_in values number
is_value_in values (Truth truth) = are_truths values
is_value_in values (Text text) = are_texts values && is_utf8 text
is_value_in values (Blob bytes) = takes_bytes values (length bytes) && are_bytes bytes

-- the number is one of the kind's integers
abbrev pub is_integer_of : Kind → ℤ → Bool
is_integer_of kind number = is_integer_in (values_of kind) number

-- the cell is a value of the kind
abbrev pub is_value_of : Kind → Cell → Bool
is_value_of kind cell = is_value_in (values_of kind) cell

abbrev pub is_null : Cell → Bool
is_null Null = true
is_null (Num number) = false
is_null (Truth truth) = false
is_null (Text text) = false
is_null (Blob bytes) = false

-- how many bytes of variable length the cell has
abbrev pub byte_length : Cell → ℕ
byte_length Null = 0
byte_length (Num number) = 0
byte_length (Truth truth) = 0
byte_length (Text text) = length text
byte_length (Blob bytes) = length bytes

-- the most bytes that a text or a blob of the kind may have
abbrev pub most_bytes_of : Kind → ℕ
most_bytes_of kind = most_bytes_in (values_of kind)
