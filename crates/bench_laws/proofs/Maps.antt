-- Rows in the order of their places: what insertions leave, and that equal look-ups make equal
-- rows.
use Rattle.std.proofs.Common.{◌≡◌, ℕ, ◌+◌, Bool, true, false, cond, eqb, List, [], ◌∷◌, length, Option, None, Some, Ordering, Less, Equal, Greater, is_eq, refl, sym, ap, ◌∙◌, arith}
use Rattle.std.specs.Prelude.{is_some, ◌==◌, if◌then◌else◌}
use Rattle.std.specs.BTreeMap.{insert_entry}
use Rattle.std.specs.List.{cons_option}
use Rattle.std.specs.Ordering.{match_ordering, ordering_reverse}
use Rattle.std.proofs.lemmas.Bool.{eqb-true, false_from_ne_true}
use Rattle.cell_model.specs.declared.cell.Cell.{Cell}
use Rattle.isolation_spec.specs.Contents.{State, at_place, contents_of, is_place, place_cmp}
use Rattle.isolation_spec.specs.declared.place.Place.{Place}
use Rattle.isolation_laws.proofs.Rows.{place_cmp-total}
use Rattle.timeline_laws.proofs.Placed.{one-place}
use Rattle.bench_laws.proofs.Every.{Every}
use Rattle.bench_laws.proofs.Writes.{at_key, place-itself, same-key, same-place}

-- the place is below those of the rows
abbrev pub Below : Place → State → Type 0
Below low rows = Every (λ entry. place_cmp low entry.0 ≡ Less) rows

-- the places rise
abbrev pub Rising : State → Type 0
Rising [] = Unit {0}
Rising (entry ∷ rows) = Below entry.0 rows × Rising rows

-- Where one place is greater than another, the other is less.
turned : (a b : Place) → place_cmp a b ≡ Greater → place_cmp b a ≡ Less
turned a b h = place_cmp-total.antisymm b a ∙ ap ordering_reverse h

-- A place less than one that is below all rows is below them too.
below-less : (low high : Place) (rows : State) → place_cmp low high ≡ Less → Below high rows → Below low rows
below-less low high [] less h = tt
below-less low high (entry ∷ rows) less h = (place_cmp-total.trans low high entry.0 less h.0, below-less low high rows less h.1)

-- A place below some rows and below an inserted one is below all of them.
below-insert : (low place : Place) (row : List Cell) (rows : State) → place_cmp low place ≡ Less → Below low rows → Below low (insert_entry place_cmp rows place row)
below-insert low place row [] less h = (less, tt)
below-insert low place row (entry ∷ rows) less h = by (below-insert low place row rows less h.1) (place_cmp place entry.0)
  where
    by : Below low (insert_entry place_cmp rows place row) → (answer : Ordering) → Below low (match_ordering answer ((place, row) ∷ entry ∷ rows) ((entry.0, row) ∷ rows) (entry ∷ insert_entry place_cmp rows place row))
    by again Less = (less, h)
    by again Equal = h
    by again Greater = (h.0, again)

-- rows stay in the order of their places when one is inserted
pub rising-insert : (place : Place) (row : List Cell) (rows : State) → Rising rows → Rising (insert_entry place_cmp rows place row)
rising-insert place row [] h = (tt, tt)
rising-insert place row (entry ∷ rows) h = by (rising-insert place row rows h.1) (place_cmp place entry.0) refl
  where
    by : Rising (insert_entry place_cmp rows place row) → (answer : Ordering) → place_cmp place entry.0 ≡ answer → Rising (match_ordering answer ((place, row) ∷ entry ∷ rows) ((entry.0, row) ∷ rows) (entry ∷ insert_entry place_cmp rows place row))
    by again Less is = ((is, below-less place entry.0 rows is h.0), h)
    by again Equal is = h
    by again Greater is = (below-insert entry.0 place row rows (turned place entry.0 is) h.0, again)

-- a place below the rows has none of them
pub at-below : (place : Place) (rows : State) → Below place rows → at_place rows place ≡ None
at-below place [] h = refl
at-below place (entry ∷ rows) h = ap (λ (o : Ordering). cond (is_eq o) (Some entry.1) (at_place rows place)) h.0 ∙ at-below place rows h.1

-- ---- equal look-ups

-- At the place of the first row stands that row.
at-first : (entry : Place × List Cell) (rows : State) → at_place (entry ∷ rows) entry.0 ≡ Some entry.1
at-first entry rows = ap (λ (b : Bool). cond b (Some entry.1) (at_place rows entry.0)) (place-itself entry.0)

-- At a place other than the first row's stands what the rest has there.
at-other : (place : Place) (entry : Place × List Cell) (rows : State) → is_place place entry.0 ≡ false → at_place (entry ∷ rows) place ≡ at_place rows place
at-other place entry rows h = ap (λ (b : Bool). cond b (Some entry.1) (at_place rows place)) h

-- An option is not both something and nothing.
none-some : {X : Type 0} (x : X) (o : Option X) → o ≡ Some x → o ≡ None → ⊥
none-some x o h k = let e : Some x ≡ None = sym h ∙ k in let never : ⊥ = cc in never

-- A place that is less than another is not the same place.
less-apart : (a b : Place) → place_cmp a b ≡ Less → is_place a b ≡ false
less-apart a b h = ap is_eq h

-- behind two rows at one place the look-ups are still equal
tails : (x y : Place × List Cell) (xs ys : State) → x.0 ≡ y.0 → Below x.0 xs → Below y.0 ys → ((place : Place) → at_place (x ∷ xs) place ≡ at_place (y ∷ ys) place) → (place : Place) → at_place xs place ≡ at_place ys place
tails x y xs ys one below_x below_y same place = by (is_place place x.0) refl
  where
    by : (b : Bool) → is_place place x.0 ≡ b → at_place xs place ≡ at_place ys place
    by true is =
        let e : place ≡ x.0 = same-place place x.0 is in
        ap (at_place xs) e ∙ at-below x.0 xs below_x ∙ sym (at-below y.0 ys below_y) ∙ ap (at_place ys) (sym (e ∙ one))
    by false is = sym (at-other place x xs is) ∙ same place ∙ at-other place y ys (ap (is_place place) (sym one) ∙ is)

-- rows in order are equal where each place has the same in both
pub equal-rows : (xs ys : State) → Rising xs → Rising ys → ((place : Place) → at_place xs place ≡ at_place ys place) → xs ≡ ys
equal-rows [] [] h k same = refl
equal-rows [] (y ∷ ys) h k same = absurd (none-some y.1 (at_place (y ∷ ys) y.0) (at-first y ys) (sym (same y.0)))
equal-rows (x ∷ xs) [] h k same = absurd (none-some x.1 (at_place (x ∷ xs) x.0) (at-first x xs) (same x.0))
equal-rows (x ∷ xs) (y ∷ ys) h k same = by (place_cmp x.0 y.0) refl (equal-rows xs ys h.1 k.1)
  where
    by : (answer : Ordering) → place_cmp x.0 y.0 ≡ answer → (((place : Place) → at_place xs place ≡ at_place ys place) → xs ≡ ys) → x ∷ xs ≡ y ∷ ys
    by Less is rest =
        absurd (none-some x.1 (at_place (x ∷ xs) x.0) (at-first x xs)
        (same x.0 ∙ at-other x.0 y ys (less-apart x.0 y.0 is) ∙ at-below x.0 ys (below-less x.0 y.0 ys is k.0)))
    by Greater is rest =
        let less = turned x.0 y.0 is in
        absurd (none-some y.1 (at_place (y ∷ ys) y.0) (at-first y ys)
        (sym (same y.0) ∙ at-other y.0 x xs (less-apart y.0 x.0 less) ∙ at-below y.0 xs (below-less y.0 x.0 xs less h.0)))
    by Equal is rest =
        let one : x.0 ≡ y.0 = one-place x.0 y.0 is in
        let both : Some x.1 ≡ Some y.1 = sym (at-first x xs) ∙ same x.0 ∙ ap (at_place (y ∷ ys)) one ∙ at-first y ys in
        let row : x.1 ≡ y.1 = cc in
        let first : x ≡ y = ap (λ (p : Place). (p, x.1)) one ∙ ap (λ (r : List Cell). (y.0, r)) row in
        ap (λ e. e ∷ xs) first ∙ ap (λ es. y ∷ es) (rest (tails x y xs ys one h.0 k.0 same))

-- ---- how many rows there are

-- an insert adds a row, except where one stood at its place
pub length-insert : (place : Place) (row : List Cell) (rows : State) → Rising rows → (stands : Bool) → is_some (at_place rows place) ≡ stands
    → length (insert_entry place_cmp rows place row) ≡ length rows + cond stands 0 1
length-insert place row [] h true is = absurd (let never : ⊥ = cc in never)
length-insert place row [] h false is = omega arith
length-insert place row (entry ∷ rows) h stands is = by (place_cmp place entry.0) refl (length-insert place row rows h.1 stands)
  where
    by : (answer : Ordering) → place_cmp place entry.0 ≡ answer → (is_some (at_place rows place) ≡ stands → length (insert_entry place_cmp rows place row) ≡ length rows + cond stands 0 1)
        → length (match_ordering answer ((place, row) ∷ entry ∷ rows) ((entry.0, row) ∷ rows) (entry ∷ insert_entry place_cmp rows place row)) ≡ length (entry ∷ rows) + cond stands 0 1
    by Less less rest =
        let none : stands ≡ false = sym is ∙ ap is_some (at-other place entry rows (less-apart place entry.0 less) ∙ at-below place rows (below-less place entry.0 rows less h.0)) in
        let one : ◌≡◌ {A = ℕ} (cond stands 0 1) 1 = ap (λ (b : Bool). cond {A = ℕ} b 0 1) none in
        omega (arith, one)
    by Equal equal rest =
        let some : stands ≡ true = sym is ∙ ap (λ (b : Bool). is_some (cond b (Some entry.1) (at_place rows place))) (ap is_eq equal) in
        let zero : ◌≡◌ {A = ℕ} (cond stands 0 1) 0 = ap (λ (b : Bool). cond {A = ℕ} b 0 1) some in
        omega (arith, zero)
    by Greater greater rest =
        let more = rest (sym (ap is_some (at-other place entry rows (ap is_eq greater))) ∙ is) in
        omega (arith, more)

-- all rows are of the first table
abbrev pub OfOne : State → Type 0
OfOne rows = Every (λ entry. entry.0.table ≡ 0) rows

-- rows stay all of the first table when one of it is inserted
pub one-insert : (place : Place) (row : List Cell) (rows : State) → place.table ≡ 0 → OfOne rows → OfOne (insert_entry place_cmp rows place row)
one-insert place row [] is h = (is, tt)
one-insert place row (entry ∷ rows) is h = by (one-insert place row rows is h.1) (place_cmp place entry.0)
  where
    by : OfOne (insert_entry place_cmp rows place row) → (answer : Ordering) → OfOne (match_ordering answer ((place, row) ∷ entry ∷ rows) ((entry.0, row) ∷ rows) (entry ∷ insert_entry place_cmp rows place row))
    by again Less = (is, h)
    by again Equal = h
    by again Greater = (h.0, again)

-- where all rows are of the first table, its contents are all of them
pub length-contents : (rows : State) → OfOne rows → length (contents_of 0 rows) ≡ length rows
length-contents [] h = refl
length-contents (entry ∷ rows) h =
    ap (λ n. length (cons_option (if n == 0 then Some entry.1 else None) (contents_of 0 rows))) h.0
    ∙ (let rest = length-contents rows h.1 in omega (arith, rest))

-- whether two keys have one place
pub key-place : (a b : ℕ) → is_place (at_key a) (at_key b) ≡ eqb a b
key-place a b = by (eqb a b) refl
  where
    by : (t : Bool) → eqb a b ≡ t → is_place (at_key a) (at_key b) ≡ t
    by true is = ap (λ n. is_place (at_key a) (at_key n)) (sym (eqb-true a b is)) ∙ place-itself (at_key a)
    by false is =
        false_from_ne_true (is_place (at_key a) (at_key b))
        (λ h. let e : a ≡ b = same-key a b (same-place (at_key a) (at_key b) h) in
        let f : eqb a b ≡ true = Rattle.std.proofs.lemmas.Bool.eq-eqb a b e in
        let never : true ≡ false = sym f ∙ is in let impossible : ⊥ = cc in impossible)
