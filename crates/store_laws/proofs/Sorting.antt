-- Rows that are sorted by their keys, of which each has one of its own.
use Rattle.std.proofs.Common.{◌≡◌, ◌⊎◌, ℕ, zero, suc, ◌<◌, ℤ, Bool, true, false, cond, ◌==◌, List, [], ◌∷◌, None, Some, Ordering, Less, Equal, Greater, length, get_or, int_cmp, int_eq, refl, sym, ap, subst, ◌∙◌, arith}
use mathlib.Core.Logic.{inl, inr}
use Rattle.std.specs.Prelude.{◌<ℤ◌, All, Contains}
use Rattle.std.specs.BTreeMap.{insert_entry}
use Rattle.std.specs.Cmp.{int_cmp_total, int_eq_equiv, nat_cmp_total, tied_itself}
use Rattle.std.specs.FinMap.{int_cmp-IsAntisymmetric}
use Rattle.std.specs.List.{AllByRecursion, IsDistinct, cons_option}
use Rattle.std.specs.List.Sorted.{IsPermutation, IsSortedByKey}
use Rattle.std.specs.Map.{keys_of}
use Rattle.std.specs.Ordering.{is_lt, match_ordering, ordering_then}
use Rattle.std.proofs.lemmas.Bool.Decides.{Decides-int_eq, nat_tests}
use Rattle.std.proofs.lemmas.Cmp.{int_ranked}
use Rattle.std.proofs.lemmas.Int.{ints}
use Rattle.std.proofs.lemmas.List.Elements.{All-head, All-tail}
use Rattle.std.proofs.lemmas.List.Sorted.{Contains-permutation, IsPermutation-sym, IsPermutation-trans, ranks_by, sorted_far}
use Rattle.std.proofs.lemmas.Map.Keys.{IsDistinct-IsPermutation, IsDistinct-cons, apart_from_distinct}
use Rattle.block_spec.specs.Slots.{Row}
use Rattle.event_spec.specs.Lawful.{Among}
use Rattle.isolation_spec.specs.Contents.{State, contents_of, key_of, place_cmp, place_of}
use Rattle.isolation_spec.specs.Order.{InOrder}
use Rattle.isolation_spec.specs.declared.place.Place.{Place}
use Rattle.run_spec.specs.Told.{in_key_order}
use Rattle.core_laws.proofs.Events.Puts.{order_put, put}
use Rattle.store_laws.proofs.Permuted.{ordered_rows_are_the_rows}
use Rattle.store_laws.specs.Scans.{SortedRowsAreInKeyOrder}

-- ---- rows whose keys rise

-- the key of each row is below those of all behind it
abbrev Rise : List Row → Type 0
Rise [] = Unit {0}
Rise (x ∷ xs) = ((y : Row) → Among y xs → key_of x <ℤ key_of y) × Rise xs

-- a number is not below itself, nor is another below it that it is below
below_itself : (a b : ℤ) → a ≡ b → a <ℤ b → ⊥
below_itself a b same less = omega (arith, ints, same, less)

below_both : (a b : ℤ) → a <ℤ b → b <ℤ a → ⊥
below_both a b one other = omega (arith, ints, one, other)

-- Lists of the same rows whose keys rise are one.
one_rise : (xs ys : List Row) → Rise xs → Rise ys → ((z : Row) → Among z xs → Among z ys) → ((z : Row) → Among z ys → Among z xs) → xs ≡ ys
one_rise [] [] up rising to back = refl
one_rise [] (y ∷ ys) up rising to back = absurd (back y (inl refl))
one_rise (x ∷ xs) [] up rising to back = absurd (to x (inl refl))
one_rise (x ∷ xs) (y ∷ ys) up rising to back = go (first (to x (inl refl)) (back y (inl refl))) (λ on off. one_rise xs ys up.1 rising.1 on off)
  where
    first : (x ≡ y) ⊎ Among x ys → (y ≡ x) ⊎ Among y xs → x ≡ y
    first (inl same) other = same
    first (inr one) (inl same) = sym same
    first (inr one) (inr other) = absurd (below_both (key_of x) (key_of y) (up.0 y other) (rising.0 x one))

    go : x ≡ y → (((z : Row) → Among z xs → Among z ys) → ((z : Row) → Among z ys → Among z xs) → xs ≡ ys) → x ∷ xs ≡ y ∷ ys
    go same rest = ap (λ z. z ∷ xs) same ∙ ap (λ zs. y ∷ zs) (rest
        (λ z among. there z among (to z (inr among))) (λ z among. here z among (back z (inr among))))
      where
        there : (z : Row) → Among z xs → (z ≡ y) ⊎ Among z ys → Among z ys
        there z among (inl is) = absurd (below_itself (key_of x) (key_of z) (ap key_of (same ∙ sym is)) (up.0 z among))
        there z among (inr rest) = rest

        here : (z : Row) → Among z ys → (z ≡ x) ⊎ Among z xs → Among z xs
        here z among (inl is) = absurd (below_itself (key_of y) (key_of z) (ap key_of (sym same ∙ sym is)) (rising.0 z among))
        here z among (inr rest) = rest

-- ---- the contents of a map

module _ (table : ℕ) where
  -- Each row stands in its own place.
  abbrev Own : State → Type 0
  Own [] = Unit {0}
  Own (e ∷ es) = (e.0 ≡ place_of table e.1) × Own es

  -- places of one table compare as their keys
  by_keys : (a b : ℤ) → place_cmp (record { table = table; key = a }) (record { table = table; key = b }) ≡ int_cmp a b
  by_keys a b = ap (λ r. ordering_then r (int_cmp a b)) (tied_itself nat_cmp_total table)

  own_insert : (es : State) (row : Row) → Own es → Own (insert_entry place_cmp es (place_of table row) row)
  own_insert [] row own = (refl, tt)
  own_insert (e ∷ es) row own = go (place_cmp (place_of table row) e.0) refl (own_insert es row own.1)
    where
      go : (r : Ordering) → place_cmp (place_of table row) e.0 ≡ r → Own (insert_entry place_cmp es (place_of table row) row)
          → Own (match_ordering r ((place_of table row, row) ∷ e ∷ es) ((e.0, row) ∷ es) (e ∷ insert_entry place_cmp es (place_of table row) row))
      go Less is rest = (refl, own)
      go Equal is rest =
          let keys : int_cmp (key_of row) (key_of e.1) ≡ Equal = sym (by_keys (key_of row) (key_of e.1)) ∙ ap (place_cmp (place_of table row)) (sym own.0) ∙ is in
          (own.0 ∙ ap (λ (k : ℤ). record { table = table; key = k }) (sym (int_cmp-IsAntisymmetric (key_of row) (key_of e.1) keys)), own.1)
      go Greater is rest = (own.0, rest)

  own_put : (rows : List Row) (acc : State) → Own acc → Own (put table acc rows)
  own_put [] acc own = own
  own_put (row ∷ rows) acc own = own_put rows (insert_entry place_cmp acc (place_of table row) row) (own_insert acc row own)

  -- an entry in its own place is of the table
  kept : (e : Place × Row) (rows : List Row) → e.0 ≡ place_of table e.1 → cons_option (cond (e.0.table == table) (Some e.1) None) rows ≡ e.1 ∷ rows
  kept e rows own = ap (λ (p : Place). cons_option (cond (p.table == table) (Some e.1) None) rows) own
      ∙ ap (λ b. cons_option (cond b (Some e.1) None) rows) (let same : (table == table) ≡ true = grind (arith, nat_tests) in same)

  -- A place below the others of a map has a key below theirs.
  key_below : (x : Row) (es : State) → Own es → All (λ place. place_cmp (place_of table x) place ≡ Less) (keys_of es)
      → (y : Row) → Among y (contents_of table es) → key_of x <ℤ key_of y
  key_below x [] own all y among = absurd among
  key_below x (e ∷ es) own all y among = go (subst (λ rows. Among y rows) (kept e (contents_of table es) own.0) among)
      (λ a. key_below x es own.1 (All-tail (λ place. place_cmp (place_of table x) place ≡ Less) e.0 (keys_of es) all) y a)
    where
      one : int_cmp (key_of x) (key_of e.1) ≡ Less
      one = sym (by_keys (key_of x) (key_of e.1)) ∙ ap (place_cmp (place_of table x)) (sym own.0)
          ∙ All-head (λ place. place_cmp (place_of table x) place ≡ Less) e.0 (keys_of es) all

      go : (y ≡ e.1) ⊎ Among y (contents_of table es) → (Among y (contents_of table es) → key_of x <ℤ key_of y) → key_of x <ℤ key_of y
      go (inl is) later = subst (λ (r : Row). key_of x <ℤ key_of r) (sym is) (int_ranked (key_of x) (key_of e.1) Less (sym one))
      go (inr rest) later = later rest

  contents_rise : (es : State) → InOrder es → Own es → Rise (contents_of table es)
  contents_rise [] order own = tt
  contents_rise (e ∷ es) order own = subst Rise (sym (kept e (contents_of table es) own.0)) (
    key_below e.1 es own.1 (subst (λ (p : Place). All (λ place. place_cmp p place ≡ Less) (keys_of es)) own.0 order.0),
    contents_rise es order.1 own.1,
  )

  -- rows in the order of their keys have keys that rise
  ordered_rise : (rows : List Row) → Rise (in_key_order table rows)
  ordered_rise rows = contents_rise (put table [] rows) (order_put table rows [] tt) (own_put rows [] tt)

-- ---- by numbers

-- what is among rows stands at a number
at_number : (xs : List Row) (z : Row) → Among z xs → Contains xs z
at_number [] z among = absurd among
at_number (x ∷ xs) z (inl is) = (zero, omega arith, sym is)
at_number (x ∷ xs) z (inr among) = let r = at_number xs z among in (suc r.0, let l = r.1 in omega (arith, l), r.2)

among_at : (xs : List Row) (z : Row) → Contains xs z → Among z xs
among_at [] z at = absurd (let less = at.1 in let never : ⊥ = omega (arith, less) in never)
among_at (x ∷ xs) z at = go at.0 at.1 at.2 (λ there. among_at xs z there)
  where
    go : (k : ℕ) → k < length (x ∷ xs) → get_or (x ∷ xs) k z ≡ z → (Contains xs z → Among z xs) → Among z (x ∷ xs)
    go zero less is later = inl (sym is)
    go (suc k) less is later = inr (later (k, omega (arith, less), is))

-- rows at lower numbers have lower keys
abbrev RiseAt : List Row → Type 0
RiseAt xs = (i j : ℕ) (d : Row) → i < j → j < length xs → key_of (get_or xs i d) <ℤ key_of (get_or xs j d)

rise_at : (xs : List Row) → RiseAt xs → Rise xs
rise_at [] up = tt
rise_at (x ∷ xs) up = (
  λ y among. let at = at_number xs y among in
      let less = at.1 in
      subst (λ (r : Row). key_of x <ℤ key_of r) at.2 (up zero (suc at.0) y (omega arith) (omega (arith, less))),
  rise_at xs (λ i j d before less. up (suc i) (suc j) d (omega (arith, before)) (omega (arith, less))),
)

-- ---- rows with keys of their own

abbrev tied : Row → Row → Bool
tied x y = int_eq (key_of x) (key_of y)

-- Numbers of which one is below the other are not tested as equal.
apart : (a b : ℤ) → a <ℤ b → int_eq a b ≡ false
apart a b less = go (int_eq a b) refl
  where
    go : (t : Bool) → int_eq a b ≡ t → int_eq a b ≡ false
    go true is = absurd (below_itself a b ((Decides-int_eq a b).0 is) less)
    go false is = is

rise_distinct : (xs : List Row) → Rise xs → IsDistinct tied xs
unfolding IsDistinct
rise_distinct [] up = tt
rise_distinct (x ∷ xs) up = IsDistinct-cons tied x xs (each xs up.0) (rise_distinct xs up.1)
  where
    each : (ys : List Row) → ((y : Row) → Among y ys → key_of x <ℤ key_of y) → AllByRecursion (λ y. tied x y ≡ false) ys
    each [] all = tt
    each (y ∷ ys) all = (apart (key_of x) (key_of y) (all y (inl refl)), each ys (λ z among. all z (inr among)))

-- sorted rows with keys of their own have keys that rise
sorted_rise : (xs : List Row) → IsSortedByKey key_of int_cmp xs → IsDistinct tied xs → RiseAt xs
sorted_rise xs sorted distinct i j d before less =
    below (key_of (get_or xs i d)) (key_of (get_or xs j d))
    (sorted_far (λ x y. is_lt (int_cmp (key_of x) (key_of y))) (ranks_by int_cmp_total key_of) xs sorted i j d (omega (arith, before)) less)
    (apart_from_distinct tied xs i j d distinct before less)
  where
    below : (a b : ℤ) → is_lt (int_cmp b a) ≡ false → int_eq a b ≡ false → a <ℤ b
    below a b none other = go (int_cmp b a) refl
      where
        go : (r : Ordering) → int_cmp b a ≡ r → a <ℤ b
        go Less is = absurd (let never : true ≡ false = sym (ap is_lt is) ∙ none in (λ (e : true ≡ false). let no : ⊥ = cc in no) never)
        go Equal is = absurd (let same : int_eq a b ≡ true = (Decides-int_eq a b).1 (sym (int_ranked b a Equal (sym is))) in (λ (e : true ≡ false). let no : ⊥ = cc in no) (sym same ∙ other))
        go Greater is = int_ranked b a Greater (sym is)

-- Rows of which each has a key of its own, sorted by their keys, are these rows in key order.
pub sorted_rows_are_in_key_order : SortedRowsAreInKeyOrder
sorted_rows_are_in_key_order table rows sorted long moved up =
    one_rise sorted (in_key_order table rows)
    (rise_at sorted (sorted_rise sorted up (IsDistinct-IsPermutation tied (λ x y. int_eq_equiv.symm (key_of x) (key_of y)) (in_key_order table rows) sorted back (rise_distinct (in_key_order table rows) rising))))
    rising
    (λ z among. among_at (in_key_order table rows) z (Contains-permutation sorted (in_key_order table rows) z there (at_number sorted z among)))
    (λ z among. among_at sorted z (Contains-permutation (in_key_order table rows) sorted z back (at_number (in_key_order table rows) z among)))
  where
    rising : Rise (in_key_order table rows)
    rising = ordered_rise table rows

    there : IsPermutation sorted (in_key_order table rows)
    there = IsPermutation-trans sorted rows (in_key_order table rows) (IsPermutation-sym rows sorted moved) (ordered_rows_are_the_rows table rows long)

    back : IsPermutation (in_key_order table rows) sorted
    back = IsPermutation-sym sorted (in_key_order table rows) there
