-- The numbers of a kind between two ends, as lanes choose them.
use Rattle.std.specs.Prelude.{◌≡◌, ℕ, ◌<◌, ◌-◌, ◌*◌, ◌^◌, ℤ, pos, negsuc, ◌+ℤ◌, ◌≤ℤ◌, List}
use Rattle.std.specs.Prelude.{flat_map}
use Rattle.std.specs.Int.{Width, byte_len, cast_unsigned}
use Rattle.cell_model.specs.Values.{is_between}
use Rattle.cell_model.specs.Widths.{number_width}
use Rattle.lane_filter.specs.declared.interval.Interval.{Interval}
use Rattle.lane_filter.specs.declared.numbers.Numbers.{Numbers}
use Rattle.lane_filter.specs.Lanes.{numbers_of, offsets_in, steps_of}
use Rattle.lane_filter.specs.Totals.{IsNumber, width_of}

-- the high end
abbrev pub high_of : Interval → ℤ
high_of interval = interval.low +ℤ pos interval.span

-- The interval is that part of the kind's numbers which lies between two.
pub record Cuts (numbers : Numbers) (low high : ℤ) (interval : Interval) : Type 0 where
  pub least : IsNumber numbers interval.low
  pub most : IsNumber numbers (high_of interval)
  pub from : interval.from ≡ cast_unsigned (number_width (width_of numbers)) interval.low
  pub same : (number : ℤ) → IsNumber numbers number
      → is_between low high number ≡ is_between interval.low (high_of interval) number

-- its ends are numbers of a width
pub record FitsWidth (width : Width) (interval : Interval) : Type 0 where
  pub from : interval.from < numbers_of width
  pub span : interval.span < numbers_of width

-- a number of a width, signed or not
pub record FitsIn (width : Width) (number : ℤ) : Type 0 where
  pub least : negsuc (2 ^ (8 * byte_len width - 1) - 1) ≤ℤ number
  pub most : number ≤ℤ pos (numbers_of width - 1)

-- how far the numbers of bytes lie above the low end, those of the last step too
abbrev pub chosen_offsets : Width → Interval → List ℕ → List ℕ
chosen_offsets width interval bytes = flat_map (offsets_in width interval.from) (steps_of bytes)
