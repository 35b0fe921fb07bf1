-- Rows that are only inserted, into one table: what the inserts write, and the commits of nothing
-- else.
use Rattle.std.specs.Prelude.{ℕ, Bool, true, not, ◌&&◌, List, [], ◌∷◌, map, fold, flat_map, find}
use Rattle.std.specs.Prelude.{length, ℤ, Option, None, Some}
use Rattle.std.specs.BTreeMap.{insert_entry}
use Rattle.std.specs.Int.{int_min}
use Rattle.std.specs.List.{list_any}
use Rattle.std.specs.Ordering.{int_eq}
use Rattle.cell_model.specs.declared.cell.Cell.{Cell}
use Rattle.isolation_spec.specs.Contents.{place_cmp, State, WriteSet, History, state_at, key_of}
use Rattle.isolation_spec.specs.Contents.{place_of}

-- one of the rows has the key
abbrev pub has_key : ℤ → List (List Cell) → Bool
has_key key rows = list_any (λ row. int_eq (key_of row) key) rows

-- no two of the rows have one key
abbrev pub are_distinct : List (List Cell) → Bool
are_distinct [] = true
are_distinct (row ∷ rows) = not (has_key (key_of row) rows) && are_distinct rows

-- the row that has the key, the first of those that do
abbrev pub row_at : ℤ → List (List Cell) → Option (List Cell)
row_at key rows = find (λ row. int_eq (key_of row) key) rows

-- the write set of inserts of these rows into a table
abbrev pub writes_of : ℕ → List (List Cell) → WriteSet
writes_of table rows = fold (λ own row. insert_entry place_cmp own (place_of table row) (Some row))
    [] rows

-- the history of commits, each of inserts of one group of rows
abbrev pub history_of : ℕ → List (List (List Cell)) → History
history_of table groups = map (writes_of table) groups

-- the state after all of these commits
abbrev pub state_after : ℕ → List (List (List Cell)) → State
state_after table groups = state_at (history_of table groups) (length groups)

-- the rows of all groups, in order
abbrev pub all_rows : List (List (List Cell)) → List (List Cell)
all_rows groups = flat_map (λ group. group) groups

-- the least of the rows' keys, none where there is no row
abbrev pub least_of : List (List Cell) → Option ℤ
least_of [] = None
least_of (row ∷ rows) = Some (fold int_min (key_of row) (map key_of rows))
