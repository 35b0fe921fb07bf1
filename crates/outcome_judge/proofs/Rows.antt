-- How many rows a table has behind a write.
use Rattle.std.proofs.Common.{◌≡◌, ℕ, ◌+◌, Bool, true, false, cond, not, ◌&&◌, List, [], ◌∷◌, Option, None, Some, refl, ap, ◌∙◌, arith}
use Rattle.std.specs.Prelude.{◌==◌, is_some}
use Rattle.std.specs.BTreeMap.{insert_entry}
use Rattle.std.specs.Map.{remove_entry}
use Rattle.std.specs.Ordering.{is_eq, match_ordering}
use Rattle.std.specs.declared.cmp.Ordering.{Ordering}
use Rattle.std.specs.declared.cmp.Ordering.TheVariants.{Less, Equal, Greater}
use Rattle.std.proofs.lemmas.Bool.{and_right}
use Rattle.cell_model.specs.declared.cell.Cell.{Cell}
use Rattle.isolation_spec.specs.Contents.{place_cmp, is_place, at_place, State, with_write}
use Rattle.isolation_spec.specs.declared.place.Place.{Place}
use Rattle.si_machine.specs.Kept.{Rises}
use Rattle.si_machine.proofs.Rising.{same-place, at-below, below-less}
use Rattle.timeline_laws.proofs.Tests.{and-true}
use Rattle.outcome_judge.specs.Timed.{rows_in, gains, loses}

module _ (table : ℕ) where
  -- The place is the table's.
  abbrev here : Place → Bool
  here place = place.table == table

  -- One where a test is true, else zero.
  abbrev one : Bool → ℕ
  one b = cond b 1 0

  -- With a row in front a table has one row more, if a test says that it is the table's.
  cons-by : (x : Place × List Cell) (xs : State) (b : Bool) → here x.0 ≡ b → rows_in table (x ∷ xs) ≡ one b + rows_in table xs
  cons-by x xs true is = rw is (omega arith)
  cons-by x xs false is = rw is (omega arith)

  -- how many rows of a table there are with one row more
  pub rows-cons : (x : Place × List Cell) (xs : State) → rows_in table (x ∷ xs) ≡ one (here x.0) + rows_in table xs
  rows-cons x xs = cons-by x xs (here x.0) refl

  -- A conjunction with something true is its first.
  both-true : (a b : Bool) → b ≡ true → (a && b) ≡ a
  both-true a b h = rw h (and-true a)

  -- An insertion adds a row to its table where there was none at the place.
  rows-insert : (rows : State) (place : Place) (row : List Cell) → Rises rows
      → rows_in table (insert_entry place_cmp rows place row) + one (here place && is_some (at_place rows place)) ≡ rows_in table rows + one (here place)
  rows-insert [] place row h =
      let a = rows-cons (place, row) [] in
      let b : one (here place && false) ≡ 0 = ap one (and_right (here place) false refl) in
      omega (arith, a, b)
  rows-insert (e ∷ rows) place row h = by (rows-insert rows place row h.1) (place_cmp place e.0) refl
    where
      by : rows_in table (insert_entry place_cmp rows place row) + one (here place && is_some (at_place rows place)) ≡ rows_in table rows + one (here place)
          → (o : Ordering) → place_cmp place e.0 ≡ o
          → rows_in table (match_ordering o ((place, row) ∷ e ∷ rows) ((e.0, row) ∷ rows) (e ∷ insert_entry place_cmp rows place row))
          + one (here place && is_some (cond (is_eq o) (Some e.1) (at_place rows place))) ≡ rows_in table (e ∷ rows) + one (here place)
      by rest Less is =
          let a = rows-cons (place, row) (e ∷ rows) in
          let c : one (here place && is_some (at_place rows place)) ≡ 0 =
          ap one (and_right (here place) (is_some (at_place rows place)) (ap is_some (at-below place rows (below-less place e.0 rows is h.0)))) in
          omega (arith, a, c)
      by rest Equal is =
          let a = rows-cons (e.0, row) rows in
          let b = rows-cons e rows in
          let c : one (here place && true) ≡ one (here place) = ap one (both-true (here place) true refl) in
          omega (arith, a, b, c)
      by rest Greater is =
          let a = rows-cons e (insert_entry place_cmp rows place row) in
          let b = rows-cons e rows in
          omega (arith, a, b, rest)

  -- A removal takes a row of its table away where there was one at the place.
  rows-remove : (rows : State) (place : Place) → rows_in table (remove_entry (is_place place) rows) + one (here place && is_some (at_place rows place)) ≡ rows_in table rows
  rows-remove [] place =
      let b : one (here place && false) ≡ 0 = ap one (and_right (here place) false refl) in
      omega (arith, b)
  rows-remove (e ∷ rows) place = by (rows-remove rows place) (is_place place e.0) refl
    where
      by : rows_in table (remove_entry (is_place place) rows) + one (here place && is_some (at_place rows place)) ≡ rows_in table rows
          → (b : Bool) → is_place place e.0 ≡ b
          → rows_in table (cond b rows (e ∷ remove_entry (is_place place) rows)) + one (here place && is_some (cond b (Some e.1) (at_place rows place))) ≡ rows_in table (e ∷ rows)
      by rest true is =
          let b = rows-cons e rows in
          let c : one (here place && true) ≡ one (here e.0) = ap one (both-true (here place) true refl) ∙ ap (λ (p : Place). one (here p)) (same-place place e.0 is) in
          omega (arith, b, c)
      by rest false is =
          let a = rows-cons e (remove_entry (is_place place) rows) in
          let b = rows-cons e rows in
          omega (arith, a, b, rest)

  -- A write adds a row to its table where there was none, and takes one away where there was one.
  pub rows-write : (rows : State) (place : Place) (change : Option (List Cell)) → Rises rows
      → rows_in table (with_write rows place change) + one (here place && loses (is_some (at_place rows place)) change)
      ≡ rows_in table rows + one (here place && gains (is_some (at_place rows place)) change)
  rows-write rows place (Some row) h = by (here place) (is_some (at_place rows place)) (rows-insert rows place row h)
    where
      by : (a b : Bool) → rows_in table (insert_entry place_cmp rows place row) + one (a && b) ≡ rows_in table rows + one a
          → rows_in table (insert_entry place_cmp rows place row) + one (a && (b && false)) ≡ rows_in table rows + one (a && (not b && true))
      by true true k = omega (arith, k)
      by true false k = omega (arith, k)
      by false b k = omega (arith, k)
  rows-write rows place None h = by (here place) (is_some (at_place rows place)) (rows-remove rows place)
    where
      by : (a b : Bool) → rows_in table (remove_entry (is_place place) rows) + one (a && b) ≡ rows_in table rows
          → rows_in table (remove_entry (is_place place) rows) + one (a && (b && true)) ≡ rows_in table rows + one (a && (not b && false))
      by true true k = omega (arith, k)
      by true false k = omega (arith, k)
      by false b k = omega (arith, k)
