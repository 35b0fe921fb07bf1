-- The numbers of a column, and what its buffers say of them.
use Rattle.std.specs.Prelude.{◌≡◌, ℕ, ◌-◌, ◌*◌, ◌^◌, Bool, true, ◌&&◌, ◌||◌, ◌==◌, not, List}
use Rattle.std.specs.Prelude.{[], ◌∷◌}
use Rattle.std.specs.Prelude.{All, IsTrue, Option, None, Some, count_ones, filter, fold, length}
use Rattle.std.specs.Prelude.{map, sum_by, ℤ, pos, negsuc, ◌+ℤ◌, if◌then◌else◌}
use Rattle.std.specs.Int.{byte_len}
use Rattle.cell_model.specs.declared.cell.Cell.{Cell}
use Rattle.cell_model.specs.declared.values.Values.{Values}
use Rattle.cell_model.specs.declared.values.Values.TheVariants as values
use Rattle.cell_model.specs.declared.width.NumberWidth.{NumberWidth}
use Rattle.cell_model.specs.Values.{is_between, is_integer_in, is_null, is_value_in}
use Rattle.cell_model.specs.Widths.{number_width}
use Rattle.arrow_spec.specs.Arrays.{data_buffers, layout_in, null_count, number_of}
use Rattle.arrow_spec.specs.Arrays.{validity}
use Rattle.lane_filter.specs.declared.numbers.Numbers.{Numbers}
use Rattle.lane_filter.specs.declared.numbers.Numbers.TheVariants.{Signed, Unsigned}
use Rattle.lane_filter.specs.declared.total.Total.{Total}

-- the numbers that values are; truth values, texts and bytes are none
abbrev pub numbers_among : Values → Option Numbers
numbers_among (values.Signed width) = Some (Signed width)
numbers_among (values.Unsigned width) = Some (Unsigned width)
numbers_among values.Truths = None
numbers_among (values.Texts width) = None
numbers_among (values.Blobs width) = None
numbers_among (values.Strips bytes) = None

-- the values that these numbers are
abbrev pub values_in : Numbers → Values
values_in (Signed width) = values.Signed width
values_in (Unsigned width) = values.Unsigned width

abbrev pub width_of : Numbers → NumberWidth
width_of (Signed width) = width
width_of (Unsigned width) = width

-- how many bits a number of the width has
abbrev pub bits_of : NumberWidth → ℕ
bits_of width = 8 * byte_len (number_width width)

-- the least number and the greatest
abbrev pub least_of : Numbers → ℤ
least_of (Signed width) = negsuc (2 ^ (bits_of width - 1) - 1)
least_of (Unsigned width) = pos 0

abbrev pub most_of : Numbers → ℤ
most_of (Signed width) = pos (2 ^ (bits_of width - 1) - 1)
most_of (Unsigned width) = pos (2 ^ bits_of width - 1)

abbrev pub IsNumber : Numbers → ℤ → Type 0
IsNumber numbers number = is_integer_in (values_in numbers) number ≡ true

-- a null, or one of the numbers
abbrev pub is_slot_of : Numbers → Cell → Bool
is_slot_of numbers cell = is_null cell || is_value_in (values_in numbers) cell

-- The cells are a column's of these numbers, of which so many are null, and these are its values
-- (Arrow columnar format, "Fixed-size Primitive Layout").
pub record AreValuesOf
    (numbers : Numbers) (cells : List Cell) (null_cells : ℕ) (value_bytes : List ℕ)
    : Type 0 where
  pub slots : All (λ cell. IsTrue (is_slot_of numbers cell)) cells
  pub nulls : null_cells ≡ null_count cells
  pub values : value_bytes ∷ [] ≡ data_buffers (layout_in (values_in numbers)) cells

-- The same, where these are its validity and its values.
pub record AreBuffersOf
    (numbers : Numbers) (cells : List Cell) (validity_bytes value_bytes : List ℕ)
    : Type 0 where
  pub slots : All (λ cell. IsTrue (is_slot_of numbers cell)) cells
  pub validity : validity_bytes ≡ validity cells
  pub values : value_bytes ∷ [] ≡ data_buffers (layout_in (values_in numbers)) cells

-- how many of so many slots are valid: all where the validity is empty, and else those with a one
abbrev pub valid_in : List ℕ → ℕ → ℕ
valid_in bytes slots = if length bytes == 0 then slots else sum_by count_ones bytes

-- the cell is no null, and its number lies between two, both counted
abbrev pub is_number_between : ℤ → ℤ → Cell → Bool
is_number_between low high cell = not (is_null cell) && is_between low high (number_of cell)

-- The numbers of the cells of a column that lie between two, both counted; a null is no number.
abbrev pub numbers_between : ℤ → ℤ → List Cell → List ℤ
numbers_between low high cells = map number_of (filter (is_number_between low high) cells)

-- A total is how many numbers there are, and their sum.
pub record IsTotalOf (numbers : List ℤ) (total : Total) : Type 0 where
  pub count : total.count ≡ length numbers
  pub sum : total.sum ≡ fold ◌+ℤ◌ (pos 0) numbers
