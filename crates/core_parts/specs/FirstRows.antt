-- The rows with which a core begins, lent from its commits.
use Rattle.std.specs.Prelude.{◌≡◌, ◌*◌, ◌<◌, ◌≤◌, ◌==◌, ℕ, ℤ, List, None, Some, filter_map, map}
use Rattle.std.specs.Prelude.{length, if◌then◌else◌}
use Rattle.std.specs.Borrow.{Bor}
use Rattle.block_spec.specs.Slots.{Row}
use Rattle.core_parts.specs.declared.first_rows.FirstRow.{FirstRow}
use Rattle.event_spec.specs.Lawful.{HasTable}
use Rattle.event_spec.specs.Parts.{Shape, blocks_of, slots_of}
use Rattle.event_spec.specs.Replay.{rows_first}
use Rattle.isolation_spec.specs.Contents.{State, key_of}
use Rattle.isolation_spec.specs.declared.place.Place.{Place}

-- the rows that are lent by their places
abbrev pub rows_at : List (Place × Bor Row) → State
rows_at entries = map (λ entry. (entry.0, entry.1.now)) entries

-- the keys of the places of a table, in order
abbrev pub keys_in : ℕ → State → List ℤ
keys_in table rows = filter_map
    (λ entry. if entry.0.table == table then Some entry.0.key else None)
    rows

-- the rows that are lent
abbrev pub rows_lent : List FirstRow → List Row
rows_lent rows = map (λ row. row.row.now) rows

-- They are the rows with which a core begins in a table, each with its key.
pub record AreFirst (shape : Shape) (table : ℕ) (lent : List FirstRow) : Type 0 where
  pub rows : rows_lent lent ≡ rows_first shape table
  pub keys : map (λ row. row.key) lent ≡ map key_of (rows_first shape table)

-- A table's slots take the rows with which a core begins.
abbrev pub HasRoom : Shape → ℕ → Type 0
HasRoom shape table = length (rows_first shape table)
    ≤ blocks_of shape table * slots_of shape table

-- those of each of the tables below one do
abbrev pub HaveRoom : Shape → ℕ → Type 0
HaveRoom shape tables = (table : ℕ) → table < tables → HasRoom shape table

-- It is the first table whose slots do not.
pub record IsFirstFull (shape : Shape) (number : ℕ) : Type 0 where
  pub table : HasTable shape number
  pub more : blocks_of shape number * slots_of shape number < length (rows_first shape number)
  pub before : HaveRoom shape number
