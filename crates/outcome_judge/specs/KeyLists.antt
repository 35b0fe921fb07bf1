-- The keys of all rows that transactions write, in order, and which of them a read asks for.
use Rattle.std.specs.Prelude.{◌≡◌, ℕ, ◌==◌, ℤ, Bool, true, not, nat_le, nat_lt, List, filter_map}
use Rattle.std.specs.List.{filter, list_any}
use Rattle.std.specs.List.Sorted.{IsStrictlySortedBy}
use Rattle.std.specs.Ordering.{is_le, is_lt}
use Rattle.cell_model.specs.declared.cell.Cell.{Cell}
use Rattle.isolation_spec.specs.Contents.{State, at_place, is_in_range, is_place}
use Rattle.isolation_spec.specs.declared.place.Place.{Place}
use Rattle.outcome_spec.specs.Entries.{Entry}
use Rattle.outcome_judge.specs.HistoryKept.{key_cmp, place_in}
use Rattle.outcome_judge.specs.Written.{written_by}
use Rattle.outcome_judge.specs.declared.key_list.KeyList.{KeyList}
use Rattle.outcome_judge.specs.declared.keys.RowKey.{RowKey}

-- a reply accepts a write of the place
abbrev pub is_written_in : List Entry → Place → Bool
is_written_in entries place = list_any (is_place place) (filter_map written_by entries)

-- one of the keys is that of the place
abbrev pub has_key : List RowKey → Place → Bool
has_key keys place = list_any (λ of. is_place place (place_in of)) keys

-- What is kept are the keys of all places that replies accept writes of, in order, each once.
pub record AreKeys (entries : List Entry) (list : KeyList) : Type 0 where
  pub rise : IsStrictlySortedBy key_cmp list.keys.items
  pub all : (place : Place) → is_written_in entries place ≡ true
      → has_key list.keys.items place ≡ true

-- the key of a table's row
abbrev pub row_key : ℕ → ℤ → RowKey
row_key table key = record { table = table; key = key }

-- those that are not below one, and not above one
abbrev pub keys_from : RowKey → List RowKey → List RowKey
keys_from first keys = filter (λ of. not (is_lt (key_cmp of first))) keys

abbrev pub keys_up_to : RowKey → List RowKey → List RowKey
keys_up_to last keys = filter (λ of. is_le (key_cmp of last)) keys

-- those whose tables are not below one, and not above one
abbrev pub keys_from_table : ℕ → List RowKey → List RowKey
keys_from_table table keys = filter (λ of. not (nat_lt of.table table)) keys

abbrev pub keys_up_to_table : ℕ → List RowKey → List RowKey
keys_up_to_table table keys = filter (λ of. nat_le of.table table) keys

-- those of a table, and those of it that lie between two, both counted
abbrev pub keys_of_table : ℕ → List RowKey → List RowKey
keys_of_table table keys = filter (λ of. of.table == table) keys

abbrev pub keys_between : ℕ → ℤ → ℤ → List RowKey → List RowKey
keys_between table low high keys = filter (λ of. is_in_range table low high (place_in of)) keys

-- the rows at keys, where they have some
abbrev pub rows_at : State → List RowKey → List (List Cell)
rows_at seen keys = filter_map (λ of. at_place seen (place_in of)) keys
