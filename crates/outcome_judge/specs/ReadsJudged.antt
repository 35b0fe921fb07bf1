-- How replies are judged by what is seen.
use Rattle.std.specs.Prelude.{◌≡◌, ℕ, ℤ, Bool, true, false, ◌&&◌, int_lt, List, [], ◌∷◌, Option, None}
use Rattle.std.specs.Prelude.{Some, is_none, is_some, not, unwrap_or, if◌then◌else◌}
use Rattle.std.specs.Cmp.Lexicographic.{pointwise}
use Rattle.std.specs.Option.{option_map_or}
use Rattle.cell_model.specs.declared.cell.Cell.{Cell}
use Rattle.isolation_spec.specs.Contents.{State, at_place, contents_between, contents_of, key_of}
use Rattle.isolation_spec.specs.Contents.{numbers_between, place_of}
use Rattle.outcome_spec.specs.Answers.{is_row, is_total_of}
use Rattle.reply_text.specs.Readers.{row_in, rows_in}
use Rattle.workload_spec.specs.Reading.{parts}
use Rattle.workload_spec.specs.Words.{line_feed}
use Rattle.si_machine.specs.Kept.{is_number}
use Rattle.outcome_judge.specs.HistoryKept.{place_in}
use Rattle.outcome_judge.specs.declared.judging.Read.{Read}
use Rattle.outcome_judge.specs.declared.judging.Read.TheVariants as read

-- there is a row, or none, as is needed
abbrev pub is_met : Bool → Option (List Cell) → Bool
is_met needed found = if needed then is_some found else is_none found

-- what is said of a write stands where it is acceptable, or where it isn't
abbrev pub as_wanted : Bool → Bool → Bool
as_wanted wanted acceptable = if wanted then acceptable else not acceptable

-- the row is that of its key
abbrev pub is_found : ℕ → State → List Cell → Bool
is_found table seen row = option_map_or (is_row row) (at_place seen (place_of table row)) false

-- the key is above another, if there is one
abbrev pub is_above : Option ℤ → ℤ → Bool
is_above None key = true
is_above (Some low) key = int_lt low key

-- the keys of the rows rise from one on, and each row is that of its key
abbrev pub are_found : ℕ → State → Option ℤ → List (List Cell) → Bool
are_found table seen last [] = true
are_found table seen last (row ∷ rows) = is_above last (key_of row)
    && (is_found table seen row && are_found table seen (Some (key_of row)) rows)

-- the bounds of a total are numbers as columns have them
abbrev pub HasBounds : Read → Type 0
HasBounds read.Nothing = Unit {0}
HasBounds (read.Row of words) = Unit {0}
HasBounds (read.NoRow of) = Unit {0}
HasBounds (read.Rows table lines) = Unit {0}
HasBounds (read.Range range lines) = Unit {0}
HasBounds (read.Total asked told) = (is_number asked.low ≡ true) × (is_number asked.high ≡ true)

-- what is said of what is seen holds
abbrev pub read_by : State → Read → Bool
read_by seen read.Nothing = true
read_by seen (read.Row of words) = option_map_or (is_row (unwrap_or (row_in words.now) []))
    (at_place seen (place_in of)) false
read_by seen (read.NoRow of) = is_none (at_place seen (place_in of))
read_by seen (read.Rows table lines) = pointwise is_row
    (unwrap_or (rows_in (parts line_feed lines.now)) []) (contents_of table seen)
read_by seen (read.Range range lines) = pointwise is_row
    (unwrap_or (rows_in (parts line_feed lines.now)) [])
    (contents_between range.table range.low range.high seen)
read_by seen (read.Total asked told) = is_total_of told.count told.sum
    (numbers_between asked.column asked.low asked.high (contents_of asked.table seen))
