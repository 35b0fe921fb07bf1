-- The least key that inserts wrote.
use Rattle.std.proofs.Common.{◌≡◌, ℕ, ℤ, Bool, true, false, cond, ◌||◌, ◌==◌, List, [], ◌∷◌, ◌++◌, Option, Some, Ordering, Less, Equal, Greater, All, Contains, ◌⊎◌, inl, inr, fold, map, find, int_lt, int_le, nat_cmp, int_cmp, int_eq, ◌≤ℤ◌, option_map, arith, eq-eqb, refl, ap, sym, ◌∙◌}
use Rattle.std.specs.BTreeMap.{insert_entry}
use Rattle.std.specs.Cmp.{nat_cmp_total, int_eq_equiv, tied_itself}
use Rattle.std.specs.Int.{int_min}
use Rattle.std.specs.List.{list_any}
use Rattle.std.specs.Map.{keys_of}
use Rattle.std.specs.Option.{option_map_or}
use Rattle.std.specs.Ordering.{match_ordering, ordering_then}
use Rattle.std.proofs.lemmas.Int.{fold-int_min_bounds, fold-int_min_reached, ints}
use Rattle.std.proofs.lemmas.Bool.{or_right}
use Rattle.std.proofs.lemmas.List.{map-append}
use Rattle.std.proofs.lemmas.List.Elements.{All-nil, All-cons, All-head, All-tail}
use Rattle.std.proofs.lemmas.List.Sums.{fold-append}
use Rattle.std.proofs.lemmas.Map.Views.{All-keys-insert_entry, list_any-from_Contains}
use Rattle.cell_model.specs.declared.cell.Cell.{Cell}
use Rattle.isolation_spec.specs.Contents.{place_cmp, WriteSet, key_of, place_at, place_of}
use Rattle.isolation_spec.specs.declared.place.Place.{Place}
use Rattle.isolation_spec.specs.Contents.{least_key}
use Rattle.isolation_laws.specs.Inserts.{has_key, writes_of, least_of}
use Rattle.isolation_laws.proofs.Rows.{IsOf}

-- the first write's key, where it is in the table
least_first : (table : ℕ) (first : Place) (row : Option (List Cell)) (rest : WriteSet) → first.table ≡ table
    → least_key table ((first, row) ∷ rest) ≡ Some first.key
least_first table first row rest of_table =
    ap (λ (is : Bool). option_map (λ (write : Place × Option (List Cell)). write.0.key) (cond is (Some (first, row)) (find (λ (write : Place × Option (List Cell)). write.0.table == table) rest)))
    (eq-eqb first.table table of_table)

-- the lesser of two keys, by how they compare
lesser_by : (below above : Bool) (key least : ℤ) (answer : Ordering) → cond below Less (cond above Greater Equal) ≡ answer
    → cond below key least ≡ match_ordering answer key least least
lesser_by true above key least Less is = refl
lesser_by true above key least Equal is = cc
lesser_by true above key least Greater is = cc
lesser_by false true key least Less is = cc
lesser_by false true key least Equal is = cc
lesser_by false true key least Greater is = refl
lesser_by false false key least Less is = cc
lesser_by false false key least Equal is = refl
lesser_by false false key least Greater is = cc

-- places of one table compare as their keys
compared : (table : ℕ) (key : ℤ) (place : Place) → place.table ≡ table → place_cmp (place_at table key) place ≡ int_cmp key place.key
compared table key place of_table =
    ap (λ (other : ℕ). ordering_then (nat_cmp table other) (int_cmp key place.key)) of_table
    ∙ ap (λ (tables : Ordering). ordering_then tables (int_cmp key place.key)) (tied_itself nat_cmp_total table)

-- With one more write the least key is the lesser of two, by the answer at the first entry.
least_by : (table : ℕ) (first : Place × Option (List Cell)) (own : WriteSet) (key : ℤ) (row : Option (List Cell)) (answer : Ordering)
    → first.0.table ≡ table
    → least_key table (match_ordering answer ((place_at table key, row) ∷ first ∷ own) ((first.0, row) ∷ own) (first ∷ insert_entry place_cmp own (place_at table key) row))
    ≡ Some (match_ordering answer key first.0.key first.0.key)
least_by table first own key row Less of_table = least_first table (place_at table key) row (first ∷ own) refl
least_by table first own key row Equal of_table = least_first table first.0 row own of_table
least_by table first own key row Greater of_table = least_first table first.0 first.1 (insert_entry place_cmp own (place_at table key) row) of_table

-- one more write into the table
pub least_key-insert_entry : (table : ℕ) (own : WriteSet) (key : ℤ) (row : Option (List Cell)) → All (IsOf table) (keys_of own)
    → least_key table (insert_entry place_cmp own (place_at table key) row)
    ≡ Some (option_map_or (λ least. int_min least key) (least_key table own) key)
least_key-insert_entry table [] key row all = least_first table (place_at table key) row [] refl
least_key-insert_entry table (first ∷ own) key row all =
    let of_table : first.0.table ≡ table = All-head (IsOf table) first.0 (keys_of own) all in
    least_by table first own key row (place_cmp (place_at table key) first.0) of_table
    ∙ ap (λ (answer : Ordering). Some (match_ordering answer key first.0.key first.0.key)) (compared table key first.0 of_table)
    ∙ ap Some (sym (lesser_by (int_lt key first.0.key) (int_lt first.0.key key) key first.0.key (int_cmp key first.0.key) refl))
    ∙ ap (λ (least : Option ℤ). Some (option_map_or (λ (least : ℤ). int_min least key) least key)) (sym (least_first table first.0 first.1 own of_table))

-- With more inserts the least key is the least of the one before and their rows' keys.
least_onto : (table : ℕ) (own : WriteSet) (least : ℤ) (rows : List (List Cell)) → All (IsOf table) (keys_of own) → least_key table own ≡ Some least
    → least_key table (fold (λ (own : WriteSet) (row : List Cell). insert_entry place_cmp own (place_of table row) (Some row)) own rows)
    ≡ Some (fold int_min least (map key_of rows))
least_onto table own least [] all is = is
least_onto table own least (row ∷ rows) all is =
    least_onto table (insert_entry place_cmp own (place_of table row) (Some row)) (int_min least (key_of row)) rows
    (All-keys-insert_entry place_cmp (place_of table row) (Some row) (IsOf table) own all refl)
    (least_key-insert_entry table own (key_of row) (Some row) all
    ∙ ap (λ (found : Option ℤ). Some (option_map_or (λ (least : ℤ). int_min least (key_of row)) found (key_of row))) is)

-- the least key that inserts wrote is the least of their rows
pub least_key-writes_of : (table : ℕ) (rows : List (List Cell)) → least_key table (writes_of table rows) ≡ least_of rows
least_key-writes_of table [] = refl
least_key-writes_of table (row ∷ rows) =
    least_onto table (insert_entry place_cmp [] (place_of table row) (Some row)) (key_of row) rows
    (All-keys-insert_entry place_cmp (place_of table row) (Some row) (IsOf table) [] (All-nil (IsOf table)) refl)
    (least_first table (place_of table row) (Some row) [] refl)

-- with one more row it is the lesser of the least and its key
pub least_of-push : (rows : List (List Cell)) (row : List Cell)
    → least_of (rows ++ row ∷ []) ≡ Some (option_map_or (λ least. int_min least (key_of row)) (least_of rows) (key_of row))
least_of-push [] row = refl
least_of-push (first ∷ rows) row =
    ap (λ (keys : List ℤ). Some (fold int_min (key_of first) keys)) (map-append key_of rows (row ∷ []))
    ∙ ap Some (fold-append int_min (key_of first) (map key_of rows) (key_of row ∷ []))

-- A key is among the keys of rows exactly where a row has it.
has_key-from_any : (key : ℤ) (rows : List (List Cell)) → list_any (int_eq key) (map key_of rows) ≡ has_key key rows
has_key-from_any key [] = refl
has_key-from_any key (row ∷ rows) =
    ap (λ (is : Bool). is || list_any (int_eq key) (map key_of rows)) (int_eq_equiv.symm key (key_of row))
    ∙ ap (λ (rest : Bool). int_eq (key_of row) key || rest) (has_key-from_any key rows)

-- A key that the first row has, or that is among the others' keys, is one of the rows'.
has_key-reached : (key : ℤ) (row : List Cell) (rows : List (List Cell)) → (key ≡ key_of row) ⊎ Contains (map key_of rows) key
    → has_key key (row ∷ rows) ≡ true
has_key-reached key row rows (inl is) =
    ap (λ (is : Bool). is || has_key key rows) (ap (int_eq (key_of row)) is ∙ int_eq_equiv.refl (key_of row))
has_key-reached key row rows (inr contains) =
    ap (λ (rest : Bool). int_eq (key_of row) key || rest) (sym (has_key-from_any key rows) ∙ list_any-from_Contains int_eq_equiv key (map key_of rows) contains)
    ∙ or_right (int_eq (key_of row) key) true refl

-- An integer that is at most another passes the test for it.
at_most : (a b : ℤ) → a ≤ℤ b → int_le a b ≡ true
at_most a b le = grind (arith, ints)

-- A key that is at most each row's key passes the test with each row.
at_most_each : (key : ℤ) (rows : List (List Cell)) → All (λ other. key ≤ℤ other) (map key_of rows) → All (λ row. int_le key (key_of row) ≡ true) rows
at_most_each key [] all = All-nil (λ (row : List Cell). int_le key (key_of row) ≡ true)
at_most_each key (row ∷ rows) all =
    All-cons (λ (row : List Cell). int_le key (key_of row) ≡ true) row rows
    (at_most key (key_of row) (All-head (λ (other : ℤ). key ≤ℤ other) (key_of row) (map key_of rows) all))
    (at_most_each key rows (All-tail (λ (other : ℤ). key ≤ℤ other) (key_of row) (map key_of rows) all))

-- The keys that two equal options hold are the same.
same_key : (a b : ℤ) → Some a ≡ Some b → b ≡ a
same_key a b is = cc

-- the least key is one of the rows' keys, and at most each of them
pub least_of-bound : (rows : List (List Cell)) (key : ℤ) → least_of rows ≡ Some key
    → (has_key key rows ≡ true) × All (λ row. int_le key (key_of row) ≡ true) rows
least_of-bound [] key is = cc
least_of-bound (row ∷ rows) key is =
    let least = same_key (fold int_min (key_of row) (map key_of rows)) key is in
    let bounds = fold-int_min_bounds (key_of row) (map key_of rows) key least in (
      has_key-reached key row rows (fold-int_min_reached (key_of row) (map key_of rows) key least),
      All-cons (λ (row : List Cell). int_le key (key_of row) ≡ true) row rows (at_most key (key_of row) bounds.0) (at_most_each key rows bounds.1),
    )
