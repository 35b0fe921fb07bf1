-- State of several tables as finite maps, and what write sets make of them.
use Rattle.std.specs.Prelude.{ℕ, Bool, ◌&&◌, ◌==◌, List, [], ◌∷◌, ℤ, pos, ◌+ℤ◌, take, fold}
use Rattle.std.specs.Prelude.{filter_map, find, length, option_map, option_and_then, slice_get}
use Rattle.std.specs.Prelude.{if◌then◌else◌, Option, None, Some}
use Rattle.std.specs.Ordering.{nat_cmp, int_cmp, ordering_then, is_eq}
use Rattle.std.specs.declared.cmp.Ordering.{Ordering}
use Rattle.std.specs.BTreeMap.{insert_entry}
use Rattle.std.specs.Map.{lookup, remove_entry}
use Rattle.cell_model.specs.declared.cell.Cell.{Cell}
use Rattle.cell_model.specs.declared.cell.Cell.TheVariants.{Null, Num, Truth, Text, Blob}
use Rattle.cell_model.specs.Values.{is_between}
use Rattle.isolation_spec.specs.declared.place.Place.{Place}

-- places go by table and then by key
abbrev pub place_cmp : Place → Place → Ordering
place_cmp a b = ordering_then (nat_cmp a.table b.table) (int_cmp a.key b.key)

-- the two places are one
abbrev pub is_place : Place → Place → Bool
is_place a b = is_eq (place_cmp a b)

-- A finite map from places: its entries in the order of the places, each place once.
abbrev pub PlaceMap : Type 0 → Type 0
PlaceMap X = List (Place × X)

-- what the map has at a place
abbrev pub at_place : {X : Type 0} → PlaceMap X → Place → Option X
at_place entries place = lookup (is_place place) entries

-- The rows of all tables.
abbrev pub State : Type 0
State = PlaceMap (List Cell)

-- A write set: at each place that a transaction wrote, the row that it left there, or none where
-- the row is gone.
abbrev pub WriteSet : Type 0
WriteSet = PlaceMap (Option (List Cell))

-- The least key of the table in a write set.
abbrev pub least_key : ℕ → WriteSet → Option ℤ
least_key table writes = option_map (λ write. write.0.key)
    (find (λ write. write.0.table == table) writes)

-- The write sets of the commits that wrote, the first commit first; commit number 1 is the first.
abbrev pub History : Type 0
History = List WriteSet

-- the rows after one write: the row stands at the place, or none does
abbrev pub with_write : State → Place → Option (List Cell) → State
with_write rows place (Some row) = insert_entry place_cmp rows place row
with_write rows place None = remove_entry (is_place place) rows

-- the rows with a write set laid over them
abbrev pub laid_over : State → WriteSet → State
laid_over rows writes = fold (λ before write. with_write before write.0 write.1) rows writes

-- The state after n commits: what the first n write sets leave, laid over each other in order.
abbrev pub state_at : History → ℕ → State
state_at history n = fold laid_over [] (take n history)

-- The contents of a table: its rows, in the order of their keys.
abbrev pub contents_of : ℕ → State → List (List Cell)
contents_of table rows = filter_map (λ entry. if entry.0.table == table then Some entry.1 else None)
    rows

-- The rows of a table that commits leave, in the order of their keys.
abbrev pub rows_left : History → ℕ → List (List Cell)
rows_left commits table = contents_of table (state_at commits (length commits))

-- the place is one of this table with a key between two, both counted
abbrev pub is_in_range : ℕ → ℤ → ℤ → Place → Bool
is_in_range table low high place = place.table == table && is_between low high place.key

-- The rows of a table whose keys lie between two, both counted, in the order of their keys.
abbrev pub contents_between : ℕ → ℤ → ℤ → State → List (List Cell)
contents_between table low high rows = filter_map
    (λ entry. if is_in_range table low high entry.0 then Some entry.1 else None)
    rows

-- the number in a cell, where it lies between two, both counted; a null is no number
abbrev pub number_between : ℤ → ℤ → Cell → Option ℤ
number_between low high (Num number) = if is_between low high number then Some number else None
number_between low high Null = None
number_between low high (Truth truth) = None
number_between low high (Text text) = None
number_between low high (Blob bytes) = None

-- The numbers in a column of these rows, counted from 0, that lie between two, both counted.
abbrev pub numbers_between : ℕ → ℤ → ℤ → List (List Cell) → List ℤ
numbers_between column low high rows = filter_map
    (λ row. option_and_then (number_between low high) (slice_get row column))
    rows

-- the sum of numbers
abbrev pub sum_of : List ℤ → ℤ
sum_of numbers = fold ◌+ℤ◌ (pos 0) numbers

-- the key of a row, the number in its first cell
abbrev pub key_of : List Cell → ℤ
key_of [] = pos 0
key_of (Num key ∷ cells) = key
key_of (Null ∷ cells) = pos 0
key_of (Truth truth ∷ cells) = pos 0
key_of (Text text ∷ cells) = pos 0
key_of (Blob bytes ∷ cells) = pos 0

-- a table's place of this key, and of this row
abbrev pub place_at : ℕ → ℤ → Place
place_at table key = record { table = table; key = key }

abbrev pub place_of : ℕ → List Cell → Place
place_of table row = place_at table (key_of row)
