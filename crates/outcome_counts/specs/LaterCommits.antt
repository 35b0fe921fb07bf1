-- How low commit numbers are behind each reply, from the end.
use Rattle.std.specs.Prelude.{ℕ, ◌-◌, ◌^◌, List, length, reverse, slice_get, is_some, Option}
use Rattle.std.specs.Option.{option_map_or}
use Rattle.outcome_spec.specs.Entries.{Entry, commit_in}
use Rattle.order_laws.specs.Places.{own_end}
use Rattle.mark_index.specs.Lists.{with_mark}
use Rattle.mark_index.specs.Marks.{ArePeaks, next_peak}
use Rattle.mark_index.specs.declared.marks.Peak.{Peak}

-- how far a number is below the first one past 64 bits, 0 where there is none
abbrev pub below : Option ℕ → ℕ
below number = option_map_or (λ n. 2 ^ 64 - n) number 0

abbrev pub below_commit : Entry → ℕ
below_commit entry = below (commit_in entry.reply.said)

-- where the own replies of the one at a place from the end begin, also from the end
abbrev pub ends_in : List Entry → ℕ → ℕ
ends_in entries back = length entries - option_map_or (own_end entries)
    (slice_get (reverse entries) back) 0

-- The peaks are those of the last so many replies, from the end.
abbrev pub AreLater : List Entry → ℕ → List Peak → Type 0
AreLater entries taken peaks = ArePeaks below_commit (ends_in entries) (reverse entries) taken peaks

-- the peaks with that of a number at a place, if there is one
abbrev pub with_low : Option ℕ → ℕ → ℕ → List Peak → List Peak
with_low number place start peaks = with_mark (is_some number)
    (next_peak peaks place start (below number)) peaks
