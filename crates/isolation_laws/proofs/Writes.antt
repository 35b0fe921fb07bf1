-- How write sets, histories and rows go on from row to row and from commit to commit.
use Rattle.std.proofs.Common.{◌≡◌, ℕ, List, [], ◌∷◌, ◌++◌, Option, Some, Ordering, Less, Equal, Greater, fold, length, append-nil, refl, ap, ◌∙◌}
use Rattle.std.specs.BTreeMap.{insert_entry}
use Rattle.std.specs.Ordering.{match_ordering}
use Rattle.std.proofs.lemmas.List.{length-map, map-append}
use Rattle.std.proofs.lemmas.List.Concat.{flat_map-append}
use Rattle.std.proofs.lemmas.List.Sums.{fold-append}
use Rattle.cell_model.specs.declared.cell.Cell.{Cell}
use Rattle.isolation_spec.specs.Contents.{place_cmp, WriteSet, History, state_at, place_of}
use Rattle.isolation_spec.specs.declared.place.Place.{Place}
use Rattle.isolation_laws.specs.Inserts.{writes_of, history_of, state_after, all_rows}

-- one more row is one more entry
pub writes_of-push : (table : ℕ) (rows : List (List Cell)) (row : List Cell)
    → writes_of table (rows ++ row ∷ []) ≡ insert_entry place_cmp (writes_of table rows) (place_of table row) (Some row)
writes_of-push table rows row =
    fold-append (λ (own : WriteSet) (row : List Cell). insert_entry place_cmp own (place_of table row) (Some row)) [] rows (row ∷ [])

-- the write set has a first entry
abbrev HasFirst : WriteSet → Type 0
HasFirst own = (first : Place × Option (List Cell)) × (rest : WriteSet) × (own ≡ first ∷ rest)

-- An insertion leaves a first entry, whatever its answer at the old first one is.
first_by : (first : Place × Option (List Cell)) (own : WriteSet) (place : Place) (row : Option (List Cell)) (answer : Ordering)
    → HasFirst (match_ordering answer ((place, row) ∷ first ∷ own) ((first.0, row) ∷ own) (first ∷ insert_entry place_cmp own place row))
first_by first own place row Less = ((place, row), first ∷ own, refl)
first_by first own place row Equal = ((first.0, row), own, refl)
first_by first own place row Greater = (first, insert_entry place_cmp own place row, refl)

-- A write set has a first entry after an insertion.
first_of_insert : (own : WriteSet) (place : Place) (row : Option (List Cell)) → HasFirst (insert_entry place_cmp own place row)
first_of_insert [] place row = ((place, row), [], refl)
first_of_insert (first ∷ own) place row = first_by first own place row (place_cmp place first.0)

-- A write set that has a first entry has one after more inserts.
first_onto : (table : ℕ) (own : WriteSet) (rows : List (List Cell)) → HasFirst own
    → HasFirst (fold (λ (own : WriteSet) (row : List Cell). insert_entry place_cmp own (place_of table row) (Some row)) own rows)
first_onto table own [] has = has
first_onto table own (row ∷ rows) has =
    first_onto table (insert_entry place_cmp own (place_of table row) (Some row)) rows (first_of_insert own (place_of table row) (Some row))

-- inserts of at least one row write something
pub writes_of-cons : (table : ℕ) (row : List Cell) (rows : List (List Cell))
    → (first : Place × Option (List Cell)) × (rest : WriteSet) × (writes_of table (row ∷ rows) ≡ first ∷ rest)
writes_of-cons table row rows =
    first_onto table (insert_entry place_cmp [] (place_of table row) (Some row)) rows (first_of_insert [] (place_of table row) (Some row))

-- one more commit
pub history_of-push : (table : ℕ) (groups : List (List (List Cell))) (group : List (List Cell))
    → history_of table (groups ++ group ∷ []) ≡ history_of table groups ++ writes_of table group ∷ []
history_of-push table groups group = map-append (writes_of table) groups (group ∷ [])

-- the rows of one more group stand behind those before
pub all_rows-push : (groups : List (List (List Cell))) (group : List (List Cell)) → all_rows (groups ++ group ∷ []) ≡ all_rows groups ++ group
all_rows-push groups group =
    flat_map-append (λ (rows : List (List Cell)). rows) groups (group ∷ [])
    ∙ ap (λ (rows : List (List Cell)). all_rows groups ++ rows) (append-nil group)

-- there are as many commits as groups
pub length-history_of : (table : ℕ) (groups : List (List (List Cell))) → length (history_of table groups) ≡ length groups
length-history_of table groups = length-map groups (writes_of table)

-- the state after the whole of a history of inserts
pub state_at-history : (table : ℕ) (groups : List (List (List Cell))) (history : History) → history ≡ history_of table groups
    → state_at history (length history) ≡ state_after table groups
state_at-history table groups history is =
    ap (λ (known : History). state_at known (length known)) is
    ∙ ap (state_at (history_of table groups)) (length-history_of table groups)
