-- The state that inserts of rows with distinct keys leave, and what is found in it.
use Rattle.std.proofs.Common.{◌≡◌, ◌≤◌, ℕ, ℤ, Bool, true, false, cond, not, ◌==◌, List, [], ◌∷◌, ◌++◌, Option, None, Some, Ordering, All, IsPermutation, fold, map, length, int_cmp, int_eq, is_eq, arith, append-nil, take_all, eq-eqb, refl, ap, sym, subst, ◌∙◌}
use Rattle.std.specs.BTreeMap.{insert_entry}
use Rattle.std.specs.Cmp.{IsTotalOrder, nat_cmp_total, int_cmp_total, int_eq_equiv, tied_itself}
use Rattle.std.specs.List.{cons_option}
use Rattle.std.specs.Map.{keys_of}
use Rattle.std.specs.Option.{option_or}
use Rattle.std.specs.Ordering.{ordering_then}
use Rattle.std.proofs.lemmas.Bool.{and_parts, not-true}
use Rattle.std.proofs.lemmas.Cmp.{then_total, on_total}
use Rattle.std.proofs.lemmas.List.{length-map}
use Rattle.std.proofs.lemmas.List.Elements.{All-nil, All-cons, All-head, All-tail}
use Rattle.std.proofs.lemmas.List.Sorted.{IsPermutation-refl, IsPermutation-trans, IsPermutation-middle, IsPermutation-append_left, length_permutation}
use Rattle.cell_model.specs.declared.cell.Cell.{Cell}
use Rattle.isolation_spec.specs.Contents.{place_cmp, is_place, at_place, State, WriteSet, laid_over, contents_of, key_of, place_at, place_of}
use Rattle.isolation_spec.specs.declared.place.Place.{Place}
use Rattle.isolation_laws.specs.Inserts.{has_key, are_distinct, row_at, writes_of, history_of, state_after, all_rows}
use Rattle.isolation_laws.proofs.Entries.{inserted, map_values, AreApart, HasNone, inserted-inserted, lookup-inserted, has_none-insert, none_in_none, insert_entry-map_values, All-keys-inserted, IsPermutation-insert_entry}
use Rattle.isolation_laws.proofs.Keys.{are_distinct-front, are_distinct-rest, row_at-None}

-- places are in a total order
pub place_cmp-total : IsTotalOrder place_cmp
place_cmp-total = then_total (on_total (λ (place : Place). place.table) nat_cmp_total) (on_total (λ (place : Place). place.key) int_cmp_total)

-- places of one table are one where their keys are
pub is_place-of : (table : ℕ) (key : ℤ) (row : List Cell) → is_place (place_at table key) (place_of table row) ≡ int_eq (key_of row) key
is_place-of table key row =
    ap (λ (tables : Ordering). is_eq (ordering_then tables (int_cmp key (key_of row)))) (tied_itself nat_cmp_total table)
    ∙ int_eq_equiv.symm key (key_of row)

-- the rows as entries at their places
abbrev pub entries_of : ℕ → List (List Cell) → State
entries_of table rows = map (λ row. (place_of table row, row)) rows

-- the state with the rows inserted in turn
abbrev pub with_rows : ℕ → State → List (List Cell) → State
with_rows table before rows = inserted place_cmp before (entries_of table rows)

-- Among the entries of rows a key's place has the row that is found at the key.
lookup-entries_of : (table : ℕ) (key : ℤ) (rows : List (List Cell)) → at_place (entries_of table rows) (place_at table key) ≡ row_at key rows
lookup-entries_of table key [] = refl
lookup-entries_of table key (row ∷ rows) =
    ap (λ (is : Bool). cond is (Some row) (at_place (entries_of table rows) (place_at table key))) (is_place-of table key row)
    ∙ ap (λ (rest : Option (List Cell)). cond (int_eq (key_of row) key) (Some row) rest) (lookup-entries_of table key rows)

-- rows with distinct keys have distinct places
apart_from_distinct : (table : ℕ) (rows : List (List Cell)) → are_distinct rows ≡ true → AreApart place_cmp (entries_of table rows)
apart_from_distinct table [] distinct = tt
apart_from_distinct table (row ∷ rows) distinct =
    let parts = and_parts (not (has_key (key_of row) rows)) (are_distinct rows) distinct in (
      lookup-entries_of table (key_of row) rows ∙ row_at-None (key_of row) rows (not-true (has_key (key_of row) rows) parts.0),
      apart_from_distinct table rows parts.1,
    )

-- Inserts written after others have their rows inserted in turn.
writes-onto : (table : ℕ) (before : State) (rows : List (List Cell))
    → fold (λ (own : WriteSet) (row : List Cell). insert_entry place_cmp own (place_of table row) (Some row)) (map_values Some before) rows
    ≡ map_values Some (with_rows table before rows)
writes-onto table before [] = refl
writes-onto table before (row ∷ rows) =
    ap (λ (own : WriteSet). fold (λ (own : WriteSet) (row : List Cell). insert_entry place_cmp own (place_of table row) (Some row)) own rows)
    (insert_entry-map_values place_cmp Some before (place_of table row) row)
    ∙ writes-onto table (insert_entry place_cmp before (place_of table row) row) rows

-- the write set of inserts has the rows inserted in turn
pub writes_of-with_rows : (table : ℕ) (rows : List (List Cell)) → writes_of table rows ≡ map_values Some (with_rows table [] rows)
writes_of-with_rows table rows = writes-onto table [] rows

-- Entries that are laid over a state as writes are inserted in turn.
laid_over-inserted : (before es : State) → laid_over before (map_values Some es) ≡ inserted place_cmp before es
laid_over-inserted before [] = refl
laid_over-inserted before (e ∷ es) = laid_over-inserted (insert_entry place_cmp before e.0 e.1) es

-- inserts of distinct rows laid over a state leave it with the rows inserted in turn
pub laid_over-writes_of : (table : ℕ) (before : State) (rows : List (List Cell)) → are_distinct rows ≡ true
    → laid_over before (writes_of table rows) ≡ with_rows table before rows
laid_over-writes_of table before rows distinct =
    ap (laid_over before) (writes_of-with_rows table rows)
    ∙ laid_over-inserted before (with_rows table [] rows)
    ∙ inserted-inserted place_cmp-total before (entries_of table rows) (apart_from_distinct table rows distinct)

-- Rows that are inserted after others are inserted as one list of both.
with_rows-append : (table : ℕ) (before : State) (front rest : List (List Cell))
    → with_rows table (with_rows table before front) rest ≡ with_rows table before (front ++ rest)
with_rows-append table before [] rest = refl
with_rows-append table before (row ∷ front) rest = with_rows-append table (insert_entry place_cmp before (place_of table row) row) front rest

-- Commits of distinct rows laid over a state leave it with all rows inserted in turn.
committed-onto : (table : ℕ) (before : State) (groups : List (List (List Cell))) → are_distinct (all_rows groups) ≡ true
    → fold laid_over before (history_of table groups) ≡ with_rows table before (all_rows groups)
committed-onto table before [] distinct = refl
committed-onto table before (group ∷ groups) distinct =
    ap (λ (now : State). fold laid_over now (history_of table groups))
    (laid_over-writes_of table before group (are_distinct-front group (all_rows groups) distinct))
    ∙ committed-onto table (with_rows table before group) groups (are_distinct-rest group (all_rows groups) distinct)
    ∙ with_rows-append table before group (all_rows groups)

-- the state after as many commits as there are groups is that after the whole history
pub state_after-whole : (table : ℕ) (groups : List (List (List Cell))) → state_after table groups ≡ fold laid_over [] (history_of table groups)
state_after-whole table groups =
    let all : length (history_of table groups) ≤ length groups = omega (arith, length-map groups (writes_of table)) in
    ap (fold laid_over []) (take_all (length groups) (history_of table groups) all)

-- the state after the commits has the rows of all groups inserted in turn
pub state_after-with_rows : (table : ℕ) (groups : List (List (List Cell))) → are_distinct (all_rows groups) ≡ true
    → state_after table groups ≡ with_rows table [] (all_rows groups)
state_after-with_rows table groups distinct = state_after-whole table groups ∙ committed-onto table [] groups distinct

-- what a transaction sees has its own rows inserted after those
pub seen-with_rows : (table : ℕ) (groups : List (List (List Cell))) (own : List (List Cell)) → are_distinct (all_rows groups ++ own) ≡ true
    → laid_over (state_after table groups) (writes_of table own) ≡ with_rows table [] (all_rows groups ++ own)
seen-with_rows table groups own distinct =
    laid_over-writes_of table (state_after table groups) own (are_distinct-rest (all_rows groups) own distinct)
    ∙ ap (λ (now : State). with_rows table now own) (state_after-with_rows table groups (are_distinct-front (all_rows groups) own distinct))
    ∙ with_rows-append table [] (all_rows groups) own

-- An option with nothing to fall back on is itself.
or_None : {X : Type 0} (found : Option X) → option_or found None ≡ found
or_None None = refl
or_None (Some x) = refl

-- at each key the state has the row that has it
pub at_place-with_rows : (table : ℕ) (rows : List (List Cell)) (key : ℤ) → are_distinct rows ≡ true
    → at_place (with_rows table [] rows) (place_at table key) ≡ row_at key rows
at_place-with_rows table rows key distinct =
    lookup-inserted place_cmp-total [] (entries_of table rows) (place_at table key) (apart_from_distinct table rows distinct)
    ∙ or_None (at_place (entries_of table rows) (place_at table key))
    ∙ lookup-entries_of table key rows

-- at each key a transaction sees the row that has it, of the commits or its own
pub at_place-seen : (table : ℕ) (groups : List (List (List Cell))) (own : List (List Cell)) (key : ℤ)
    → are_distinct (all_rows groups ++ own) ≡ true
    → at_place (laid_over (state_after table groups) (writes_of table own)) (place_at table key) ≡ row_at key (all_rows groups ++ own)
at_place-seen table groups own key distinct =
    ap (λ (now : State). at_place now (place_at table key)) (seen-with_rows table groups own distinct)
    ∙ at_place-with_rows table (all_rows groups ++ own) key distinct

-- ---- the contents

-- the row of an entry of the table, none of another's
abbrev kept_in : ℕ → Place × List Cell → Option (List Cell)
kept_in table entry = cond (entry.0.table == table) (Some entry.1) None

-- A row that is inserted at a new place is added to the contents.
contents-insert : (table : ℕ) (before : State) (row : List Cell) → at_place before (place_of table row) ≡ None
    → IsPermutation (row ∷ contents_of table before) (contents_of table (insert_entry place_cmp before (place_of table row) row))
contents-insert table before row none =
    IsPermutation-insert_entry place_cmp-total (kept_in table) before (place_of table row) row row
    (ap (λ (is : Bool). cond is (Some row) None) (eq-eqb table table refl)) none

-- Rows that are inserted at new places are added to the contents.
contents-onto : (table : ℕ) (before : State) (rows : List (List Cell)) → AreApart place_cmp (entries_of table rows)
    → HasNone place_cmp before (entries_of table rows)
    → IsPermutation (contents_of table before ++ rows) (contents_of table (with_rows table before rows))
contents-onto table before [] apart none =
    subst (λ (rows : List (List Cell)). IsPermutation rows (contents_of table before)) (sym (append-nil (contents_of table before))) (IsPermutation-refl (contents_of table before))
contents-onto table before (row ∷ rows) apart none =
    let now = insert_entry place_cmp before (place_of table row) row in
    IsPermutation-trans (contents_of table before ++ row ∷ rows) (row ∷ (contents_of table before ++ rows)) (contents_of table (with_rows table now rows))
    (IsPermutation-middle (contents_of table before) row rows)
    (IsPermutation-trans (row ∷ (contents_of table before ++ rows)) (contents_of table now ++ rows) (contents_of table (with_rows table now rows))
    (IsPermutation-append_left rows (row ∷ contents_of table before) (contents_of table now) (contents-insert table before row none.0))
    (contents-onto table now rows apart.1
    (has_none-insert place_cmp-total before (place_of table row) row (entries_of table rows) apart.0 none.1)))

-- the contents of a table with rows inserted are those rows, in another order
pub contents_of-with_rows : (table : ℕ) (rows : List (List Cell)) → are_distinct rows ≡ true
    → IsPermutation rows (contents_of table (with_rows table [] rows))
contents_of-with_rows table rows distinct =
    contents-onto table [] rows (apart_from_distinct table rows distinct) (none_in_none place_cmp-total (entries_of table rows))

-- the commits leave the rows of all groups, in another order
pub contents_of-state_after : (table : ℕ) (groups : List (List (List Cell))) → are_distinct (all_rows groups) ≡ true
    → IsPermutation (all_rows groups) (contents_of table (state_after table groups))
contents_of-state_after table groups distinct =
    subst (λ (now : State). IsPermutation (all_rows groups) (contents_of table now)) (sym (state_after-with_rows table groups distinct))
    (contents_of-with_rows table (all_rows groups) distinct)

-- and as many as these are
pub length-contents_of : (table : ℕ) (groups : List (List (List Cell))) → are_distinct (all_rows groups) ≡ true
    → length (contents_of table (state_after table groups)) ≡ length (all_rows groups)
length-contents_of table groups distinct =
    length_permutation (all_rows groups) (contents_of table (state_after table groups)) (contents_of-state_after table groups distinct)

-- ---- other tables

-- the place is the table's
abbrev pub IsOf : ℕ → Place → Type 0
IsOf table place = place.table ≡ table

-- The places of a table's rows are the table's.
all_of_table : (table : ℕ) (rows : List (List Cell)) → All (IsOf table) (keys_of (entries_of table rows))
all_of_table table [] = All-nil (IsOf table)
all_of_table table (row ∷ rows) = All-cons (IsOf table) (place_of table row) (keys_of (entries_of table rows)) refl (all_of_table table rows)

-- places of one table are so still with more of its rows
pub All-with_rows : (table : ℕ) (before : State) (rows : List (List Cell)) → All (IsOf table) (keys_of before)
    → All (IsOf table) (keys_of (with_rows table before rows))
All-with_rows table before rows all = All-keys-inserted place_cmp (IsOf table) before (entries_of table rows) all (all_of_table table rows)

-- Places of one table are so still with inserts into it laid over.
laid_over-All : (table : ℕ) (before : State) (rows : List (List Cell)) → All (IsOf table) (keys_of before)
    → All (IsOf table) (keys_of (laid_over before (writes_of table rows)))
laid_over-All table before rows all =
    subst (λ (now : State). All (IsOf table) (keys_of now))
    (sym (ap (laid_over before) (writes_of-with_rows table rows) ∙ laid_over-inserted before (with_rows table [] rows)))
    (All-keys-inserted place_cmp (IsOf table) before (with_rows table [] rows) all (All-with_rows table [] rows (All-nil (IsOf table))))

-- Places of one table are so still after commits of inserts into it.
committed-All : (table : ℕ) (before : State) (groups : List (List (List Cell))) → All (IsOf table) (keys_of before)
    → All (IsOf table) (keys_of (fold laid_over before (history_of table groups)))
committed-All table before [] all = all
committed-All table before (group ∷ groups) all = committed-All table (laid_over before (writes_of table group)) groups (laid_over-All table before group all)

-- Where all places are one table's, another has no contents.
other_empty : (table other : ℕ) (now : State) → table == other ≡ false → All (IsOf table) (keys_of now) → contents_of other now ≡ []
other_empty table other [] apart all = refl
other_empty table other (entry ∷ now) apart all =
    let of_table : entry.0.table ≡ table = All-head (IsOf table) entry.0 (keys_of now) all in
    let not_other : entry.0.table == other ≡ false = ap (λ (its : ℕ). its == other) of_table ∙ apart in
    ap (λ (is : Bool). cons_option (cond is (Some entry.1) None) (contents_of other now)) not_other
    ∙ other_empty table other now apart (All-tail (IsOf table) entry.0 (keys_of now) all)

-- inserts into one table leave the others empty
pub contents_of-other : (table other : ℕ) (groups : List (List (List Cell))) → table == other ≡ false → contents_of other (state_after table groups) ≡ []
contents_of-other table other groups apart =
    ap (contents_of other) (state_after-whole table groups)
    ∙ other_empty table other (fold laid_over [] (history_of table groups)) apart (committed-All table [] groups (All-nil (IsOf table)))
