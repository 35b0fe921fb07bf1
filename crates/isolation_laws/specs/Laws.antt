-- What is seen of a table that only takes inserts of rows with distinct keys.
use Rattle.std.specs.Prelude.{◌≡◌, ◌↔◌, ℕ, true, false, not, ◌&&◌, ◌||◌, ◌==◌, List, [], ◌∷◌, ◌++◌}
use Rattle.std.specs.Prelude.{length, All, ℤ, int_le, Option, None, Some, is_some}
use Rattle.std.specs.BTreeMap.{insert_entry}
use Rattle.std.specs.Int.{int_min}
use Rattle.std.specs.List.Sorted.{IsPermutation}
use Rattle.std.specs.Option.{option_map_or}
use Rattle.cell_model.specs.declared.cell.Cell.{Cell}
use Rattle.isolation_spec.specs.Contents.{place_cmp, at_place, History, laid_over, state_at}
use Rattle.isolation_spec.specs.Contents.{contents_of, WriteSet, key_of, place_at, place_of}
use Rattle.isolation_spec.specs.declared.place.Place.{Place}
use Rattle.isolation_spec.specs.Contents.{least_key}
use Rattle.isolation_laws.specs.Inserts.{has_key, are_distinct, row_at, writes_of, history_of}
use Rattle.isolation_laws.specs.Inserts.{state_after, all_rows, least_of}

-- At each key is seen the row that has it, of those committed and of the transaction's own.
abbrev pub FindsTheRow : Type 0
FindsTheRow = (table : ℕ) (groups : List (List (List Cell))) (own : List (List Cell)) (key : ℤ)
    → are_distinct (all_rows groups ++ own) ≡ true
    → at_place (laid_over (state_after table groups) (writes_of table own)) (place_at table key)
    ≡ row_at key (all_rows groups ++ own)

-- The contents of the table are the rows of all groups, each once.
abbrev pub HoldsTheRows : Type 0
HoldsTheRows = (table : ℕ) (groups : List (List (List Cell)))
    → are_distinct (all_rows groups) ≡ true
    → IsPermutation (all_rows groups) (contents_of table (state_after table groups))

-- There are as many of them.
abbrev pub HoldsAsMany : Type 0
HoldsAsMany = (table : ℕ) (groups : List (List (List Cell)))
    → are_distinct (all_rows groups) ≡ true
    → length (contents_of table (state_after table groups)) ≡ length (all_rows groups)

-- Another table is empty.
abbrev pub LeavesOtherTables : Type 0
LeavesOtherTables = (table other : ℕ) (groups : List (List (List Cell)))
    → table == other ≡ false
    → contents_of other (state_after table groups) ≡ []

-- The least key that inserts wrote is the least of the rows' keys.
abbrev pub WritesTheLeastKey : Type 0
WritesTheLeastKey = (table : ℕ) (rows : List (List Cell)) → least_key table (writes_of table rows)
    ≡ least_of rows

-- It is one of the rows' keys, and at most each of them.
abbrev pub LeastIsAtMostEach : Type 0
LeastIsAtMostEach = (rows : List (List Cell)) (key : ℤ) → least_of rows ≡ Some key
    → (has_key key rows ≡ true) × All (λ row. int_le key (key_of row) ≡ true) rows

-- One more row, and its key is the least so far or not.
abbrev pub LeastOfOneMore : Type 0
LeastOfOneMore = (rows : List (List Cell)) (row : List Cell)
    → least_of (rows ++ row ∷ [])
    ≡ Some (option_map_or (λ least. int_min least (key_of row)) (least_of rows) (key_of row))

-- One more row is one more entry.
abbrev pub WritesOneMore : Type 0
WritesOneMore = (table : ℕ) (rows : List (List Cell)) (row : List Cell)
    → writes_of table (rows ++ row ∷ [])
    ≡ insert_entry place_cmp (writes_of table rows) (place_of table row) (Some row)

-- Inserts of at least one row write something.
abbrev pub WritesSomething : Type 0
WritesSomething = (table : ℕ) (row : List Cell) (rows : List (List Cell))
    → (first : Place × Option (List Cell)) × (rest : WriteSet)
    × (writes_of table (row ∷ rows) ≡ first ∷ rest)

-- One more row keeps the keys distinct exactly where no row before has its key.
abbrev pub DistinctWithOneMore : Type 0
DistinctWithOneMore = (rows : List (List Cell)) (row : List Cell)
    → are_distinct (rows ++ row ∷ []) ≡ (are_distinct rows && not (has_key (key_of row) rows))

-- The keys of a front are distinct.
abbrev pub FrontIsDistinct : Type 0
FrontIsDistinct = (front rest : List (List Cell)) → are_distinct (front ++ rest) ≡ true
    → are_distinct front ≡ true

-- A key is one of two lists' where it is one of either's.
abbrev pub KeysOfBoth : Type 0
KeysOfBoth = (key : ℤ) (front rest : List (List Cell)) → has_key key (front ++ rest)
    ≡ (has_key key front || has_key key rest)

-- A row is found exactly where one has the key.
abbrev pub FindsWhereThereIsOne : Type 0
FindsWhereThereIsOne = (key : ℤ) (rows : List (List Cell)) → is_some (row_at key rows)
    ≡ has_key key rows

-- None is found exactly where none has the key.
abbrev pub MissesWhereThereIsNone : Type 0
MissesWhereThereIsNone = (key : ℤ) (rows : List (List Cell))
    → (row_at key rows ≡ None) ↔ (has_key key rows ≡ false)

-- The state after the whole of a history of inserts.
abbrev pub StateAfterTheHistory : Type 0
StateAfterTheHistory = (table : ℕ) (groups : List (List (List Cell))) (history : History)
    → history ≡ history_of table groups
    → state_at history (length history) ≡ state_after table groups

-- One more commit is one more write set, and its rows are the last.
abbrev pub CommitsOneMore : Type 0
CommitsOneMore = (table : ℕ) (groups : List (List (List Cell))) (group : List (List Cell))
    → (history_of table (groups ++ group ∷ []) ≡ history_of table groups
    ++ writes_of table group ∷ [])
    × (all_rows (groups ++ group ∷ []) ≡ all_rows groups ++ group)
