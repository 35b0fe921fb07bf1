-- Rows that are as many as their map has stand in it, each once.
use Rattle.std.proofs.Common.{◌≡◌, ◌⊎◌, ℕ, suc, ◌+◌, ◌≤◌, Bool, true, false, cond, ◌==◌, List, [], ◌∷◌, ◌++◌, None, Some, Ordering, Less, Equal, Greater, length, refl, sym, ap, subst, arith}
use mathlib.Core.Logic.{inl, inr}
use Rattle.std.specs.BTreeMap.{insert_entry}
use Rattle.std.specs.List.{cons_option}
use Rattle.std.specs.List.Sorted.{IsPermutation}
use Rattle.std.specs.Ordering.{match_ordering}
use Rattle.std.proofs.lemmas.Bool.Decides.{nat_tests}
use Rattle.std.proofs.lemmas.List.Sorted.{IsPermutation-append_left, IsPermutation-cons, IsPermutation-middle, IsPermutation-refl, IsPermutation-sym, IsPermutation-trans, length_permutation}
use Rattle.block_spec.specs.Slots.{Row}
use Rattle.isolation_spec.specs.Contents.{State, contents_of, place_cmp, place_of}
use Rattle.isolation_spec.specs.declared.place.Place.{Place}
use Rattle.core_laws.proofs.Events.Puts.{put}
use Rattle.store_laws.specs.Scans.{OrderedRowsAreTheRows}

-- A number passes the test for equality with itself.
same_number : (a : ℕ) → (a == a) ≡ true
same_number a = grind (arith, nat_tests)

-- rows with one more of some others, or as many
abbrev IsMore : Row → List Row → List Row → Type 0
IsMore row rows more = IsPermutation (row ∷ rows) more ⊎ (length more ≡ length rows)

-- so they are behind a row that is kept or left out
behind : (b : Bool) (first row : Row) (rows more : List Row) → IsMore row rows more
    → IsMore row (cons_option (cond b (Some first) None) rows) (cons_option (cond b (Some first) None) more)
behind false first row rows more is = is
behind true first row rows more (inr same) = inr (ap suc same)
behind true first row rows more (inl moved) = inl
    (IsPermutation-trans (row ∷ first ∷ rows) (first ∷ row ∷ rows) (first ∷ more)
    (IsPermutation-sym (first ∷ row ∷ rows) (row ∷ first ∷ rows) (IsPermutation-middle (first ∷ []) row rows))
    (IsPermutation-cons first (row ∷ rows) more moved))

-- Whichever of two rows stands in front, if one does, the rows are as many.
as_many : (b : Bool) (x y : Row) (rows : List Row) → length (cons_option (cond b (Some x) None) rows) ≡ length (cons_option (cond b (Some y) None) rows)
as_many true x y rows = refl
as_many false x y rows = refl

module _ (table : ℕ) where
  -- an insertion adds its row, or takes another's place
  inserted : (es : State) (p : Place) (row : Row) → (p.table == table) ≡ true
      → IsMore row (contents_of table es) (contents_of table (insert_entry place_cmp es p row))
  inserted [] p row mine = inl
      (subst (IsPermutation (row ∷ [])) (ap (λ b. cons_option (cond b (Some row) None) []) (sym mine)) (IsPermutation-refl (row ∷ [])))
  inserted (e ∷ es) p row mine = go (place_cmp p e.0) (inserted es p row mine)
    where
      go : (r : Ordering) → IsMore row (contents_of table es) (contents_of table (insert_entry place_cmp es p row))
          → IsMore row (contents_of table (e ∷ es)) (contents_of table (match_ordering r ((p, row) ∷ e ∷ es) ((e.0, row) ∷ es) (e ∷ insert_entry place_cmp es p row)))
      go Less rest = inl
          (subst (IsPermutation (row ∷ contents_of table (e ∷ es))) (ap (λ b. cons_option (cond b (Some row) None) (contents_of table (e ∷ es))) (sym mine))
          (IsPermutation-refl (row ∷ contents_of table (e ∷ es))))
      go Equal rest = inr (as_many (e.0.table == table) row e.1 (contents_of table es))
      go Greater rest = behind (e.0.table == table) e.1 row (contents_of table es) (contents_of table (insert_entry place_cmp es p row)) rest

  -- the map with one more row
  abbrev with_row : State → Row → State
  with_row acc row = insert_entry place_cmp acc (place_of table row) row

  -- Rows put into a map add to the table's contents at most their own count.
  at_most : (rows : List Row) (acc : State) → length (contents_of table (put table acc rows)) ≤ length (contents_of table acc) + length rows
  at_most [] acc = omega arith
  at_most (row ∷ rows) acc = go (inserted acc (place_of table row) row (same_number table)) (at_most rows (with_row acc row))
    where
      go : IsMore row (contents_of table acc) (contents_of table (with_row acc row))
          → length (contents_of table (put table (with_row acc row) rows)) ≤ length (contents_of table (with_row acc row)) + length rows
          → length (contents_of table (put table (with_row acc row) rows)) ≤ length (contents_of table acc) + length (row ∷ rows)
      go (inl moved) rest = let long = length_permutation (row ∷ contents_of table acc) (contents_of table (with_row acc row)) moved in omega (arith, rest, long)
      go (inr same) rest = omega (arith, rest, same)

  -- Where rows put into a map add their full count, old and new ones stand in it, each once.
  each_once : (rows : List Row) (acc : State) → length (contents_of table acc) + length rows ≤ length (contents_of table (put table acc rows))
      → IsPermutation (contents_of table acc ++ rows) (contents_of table (put table acc rows))
  each_once [] acc all = subst (λ xs. IsPermutation xs (contents_of table acc)) (sym (Rattle.std.proofs.Common.append-nil (contents_of table acc))) (IsPermutation-refl (contents_of table acc))
  each_once (row ∷ rows) acc all = go (inserted acc (place_of table row) row (same_number table)) (each_once rows (with_row acc row))
    where
      go : IsMore row (contents_of table acc) (contents_of table (with_row acc row))
          → (length (contents_of table (with_row acc row)) + length rows ≤ length (contents_of table (put table (with_row acc row) rows))
          → IsPermutation (contents_of table (with_row acc row) ++ rows) (contents_of table (put table (with_row acc row) rows)))
          → IsPermutation (contents_of table acc ++ row ∷ rows) (contents_of table (put table (with_row acc row) rows))
      go (inl moved) again =
          let long = length_permutation (row ∷ contents_of table acc) (contents_of table (with_row acc row)) moved in
          let rest = again (omega (arith, all, long)) in
          IsPermutation-trans (contents_of table acc ++ row ∷ rows) (row ∷ (contents_of table acc ++ rows)) (contents_of table (put table (with_row acc row) rows))
          (IsPermutation-middle (contents_of table acc) row rows)
          (IsPermutation-trans ((row ∷ contents_of table acc) ++ rows) (contents_of table (with_row acc row) ++ rows) (contents_of table (put table (with_row acc row) rows))
          (IsPermutation-append_left rows (row ∷ contents_of table acc) (contents_of table (with_row acc row)) moved) rest)
      go (inr same) again =
          let few = at_most rows (with_row acc row) in
          absurd (let never : ⊥ = omega (arith, all, few, same) in never)

-- Rows that are as many as are left in the order of their keys are the same rows.
pub ordered_rows_are_the_rows : OrderedRowsAreTheRows
ordered_rows_are_the_rows table rows long = each_once table rows [] (let all : length rows ≡ length (contents_of table (put table [] rows)) = long in omega (arith, all))
