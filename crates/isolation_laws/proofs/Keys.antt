-- How distinct keys go on from row to row.
use Rattle.std.proofs.Common.{◌≡◌, ℤ, Bool, true, false, cond, not, ◌&&◌, ◌||◌, List, [], ◌∷◌, ◌++◌, Option, None, Some, is_some, int_eq, refl, ap, sym, ◌∙◌}
use Rattle.std.specs.Cmp.{int_eq_equiv}
use Rattle.std.proofs.lemmas.List.Folds.{list_any-append}
use Rattle.std.proofs.lemmas.Bool.{and_parts, and_from}
use Rattle.cell_model.specs.declared.cell.Cell.{Cell}
use Rattle.isolation_spec.specs.Contents.{key_of}
use Rattle.isolation_laws.specs.Inserts.{has_key, are_distinct, row_at}

-- a key of two lists of rows is in one of them
pub has_key-append : (key : ℤ) (front rest : List (List Cell)) → has_key key (front ++ rest) ≡ (has_key key front || has_key key rest)
has_key-append key front rest = list_any-append (λ row. int_eq (key_of row) key) front rest

-- the same test over more rows
with_one_more : (among fresh distinct is : Bool) → (not (among || (is || false)) && (distinct && not fresh)) ≡ ((not among && distinct) && not (is || fresh))
with_one_more true fresh distinct is = refl
with_one_more false fresh true true = refl
with_one_more false fresh false true = refl
with_one_more false fresh distinct false = refl

-- one more row keeps the keys distinct where its key is new
pub are_distinct-push : (rows : List (List Cell)) (row : List Cell)
    → are_distinct (rows ++ row ∷ []) ≡ (are_distinct rows && not (has_key (key_of row) rows))
are_distinct-push [] row = refl
are_distinct-push (first ∷ rows) row =
    ap (λ (has : Bool). not has && are_distinct (rows ++ row ∷ [])) (has_key-append (key_of first) rows (row ∷ []))
    ∙ ap (λ (distinct : Bool). not (has_key (key_of first) rows || (int_eq (key_of row) (key_of first) || false)) && distinct) (are_distinct-push rows row)
    ∙ ap (λ (is : Bool). not (has_key (key_of first) rows || (is || false)) && (are_distinct rows && not (has_key (key_of row) rows)))
    (int_eq_equiv.symm (key_of row) (key_of first))
    ∙ with_one_more (has_key (key_of first) rows) (has_key (key_of row) rows) (are_distinct rows) (int_eq (key_of first) (key_of row))

-- Where neither of two holds, the first does not.
front_parts : (among rest : Bool) → not (among || rest) ≡ true → not among ≡ true
front_parts true rest holds = holds
front_parts false rest holds = refl

-- rows in front have distinct keys where all have
pub are_distinct-front : (front rest : List (List Cell)) → are_distinct (front ++ rest) ≡ true → are_distinct front ≡ true
are_distinct-front [] rest distinct = refl
are_distinct-front (row ∷ front) rest distinct =
    let parts = and_parts (not (has_key (key_of row) (front ++ rest))) (are_distinct (front ++ rest)) distinct in
    let both = ap not (sym (has_key-append (key_of row) front rest)) ∙ parts.0 in
    and_from (not (has_key (key_of row) front)) (are_distinct front)
    (front_parts (has_key (key_of row) front) (has_key (key_of row) rest) both)
    (are_distinct-front front rest parts.1)

-- and so have those behind them
pub are_distinct-rest : (front rest : List (List Cell)) → are_distinct (front ++ rest) ≡ true → are_distinct rest ≡ true
are_distinct-rest [] rest distinct = distinct
are_distinct-rest (row ∷ front) rest distinct = are_distinct-rest front rest (and_parts (not (has_key (key_of row) (front ++ rest))) (are_distinct (front ++ rest)) distinct).1

-- Something is found where the first row passes, or where something is found behind it.
found-where : (b : Bool) (row : List Cell) (rest : Option (List Cell)) (has : Bool) → is_some rest ≡ has → is_some (cond b (Some row) rest) ≡ (b || has)
found-where true row rest has is = refl
found-where false row rest has is = is

-- a row is found at a key exactly where one has it
pub is_some-row_at : (key : ℤ) (rows : List (List Cell)) → is_some (row_at key rows) ≡ has_key key rows
is_some-row_at key [] = refl
is_some-row_at key (row ∷ rows) = found-where (int_eq (key_of row) key) row (row_at key rows) (has_key key rows) (is_some-row_at key rows)

-- Where the test says that no row is found, none is.
none-from : (found : Option (List Cell)) → is_some found ≡ false → found ≡ None
none-from None is = refl
none-from (Some row) is = cc

-- none is found where none has the key
pub row_at-None : (key : ℤ) (rows : List (List Cell)) → has_key key rows ≡ false → row_at key rows ≡ None
row_at-None key rows none = none-from (row_at key rows) (is_some-row_at key rows ∙ none)

-- none has the key where none is found
pub has_key-false : (key : ℤ) (rows : List (List Cell)) → row_at key rows ≡ None → has_key key rows ≡ false
has_key-false key rows none = sym (is_some-row_at key rows) ∙ ap is_some none
