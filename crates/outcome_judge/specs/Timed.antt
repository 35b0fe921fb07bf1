-- Writes one after another, each with the time at which it was made, and the rows that they leave.
use Rattle.std.specs.Prelude.{ℕ, Bool, ◌&&◌, not, nat_le, is_some, is_none, List, length, map, fold}
use Rattle.std.specs.Prelude.{Option, None, option_map}
use Rattle.std.specs.List.{filter, last_or}
use Rattle.cell_model.specs.declared.cell.Cell.{Cell}
use Rattle.isolation_spec.specs.Contents.{State, contents_of, is_place, with_write}
use Rattle.isolation_spec.specs.declared.place.Place.{Place}

-- A write: when it was made, its place, and the row that it leaves there, or none where the row is
-- gone. A commit's writes have its number as their time, and a transaction's own how many replies
-- there are up to them.
pub record TimedWrite : Type 0 where
  pub time : ℕ
  pub place : Place
  pub row : Option (List Cell)

-- a change of a place, and changes of places, made at one time
abbrev pub timed_one : ℕ → Place × Option (List Cell) → TimedWrite
timed_one time change = record { time = time; place = change.0; row = change.1 }

abbrev pub timed : ℕ → List (Place × Option (List Cell)) → List TimedWrite
timed time changes = map (timed_one time) changes

-- the rows after the writes
abbrev pub after_writes : State → List TimedWrite → State
after_writes rows writes = fold (λ before write. with_write before write.place write.row) rows
    writes

-- the writes up to a time
abbrev pub up_to : ℕ → List TimedWrite → List TimedWrite
up_to bound writes = filter (λ write. nat_le write.time bound) writes

-- what the last of the writes of a place leaves there; none where none is of the place
abbrev pub left_at : Place → List TimedWrite → Option (Option (List Cell))
left_at place writes = option_map (λ write. write.row)
    (last_or None (filter (λ write. is_place place write.place) writes))

-- how many rows a table has
abbrev pub rows_in : ℕ → State → ℕ
rows_in table rows = length (contents_of table rows)

-- a write where there was a row, or none, adds one to its table, or takes one away
abbrev pub gains : Bool → Option (List Cell) → Bool
gains had change = not had && is_some change

abbrev pub loses : Bool → Option (List Cell) → Bool
loses had change = had && is_none change
