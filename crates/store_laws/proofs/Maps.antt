-- Maps in the order of their places: what one table has of them is told by look-ups.
use Rattle.std.proofs.Common.{◌≡◌, ℕ, ◌+◌, ℤ, Bool, true, false, cond, ◌==◌, List, [], ◌∷◌, None, Some, Ordering, Less, Equal, Greater, length, nat_lt, int_cmp, int_eq, refl, sym, ap, ◌∙◌, arith}
use mathlib.Core.Logic.{inl, inr}
use Rattle.std.specs.BTreeMap.{insert_entry}
use Rattle.std.specs.Cmp.{IsTotalOrder, alike_right, nat_cmp_is, tied_back, tied_itself}
use Rattle.std.specs.List.{cons_option, filter_map}
use Rattle.std.specs.Map.{keys_of}
use Rattle.std.specs.Ordering.{is_eq, nat_cmp, ordering_then, ordering_reverse}
use Rattle.std.proofs.lemmas.Bool.Decides.{nat_tests, Decides-int_eq}
use Rattle.std.proofs.lemmas.List.Elements.{All-cons, All-weaker}
use Rattle.std.proofs.lemmas.List.Sorted.{length_permutation}
use Rattle.block_spec.specs.Slots.{Row}
use Rattle.isolation_spec.specs.Order.{InOrder}
use Rattle.core_laws.proofs.Events.Puts.{put}
use Rattle.event_spec.specs.Lawful.{Among}
use Rattle.isolation_laws.proofs.Overlays.{at-insert, none_below}
use Rattle.isolation_laws.proofs.Entries.{IsPermutation-insert_entry}
use Rattle.isolation_laws.proofs.Rows.{is_place-of, place_cmp-total}
use Rattle.isolation_spec.specs.Contents.{State, at_place, contents_of, is_place, key_of, place_at, place_cmp, place_of}
use Rattle.isolation_spec.specs.declared.place.Place.{Place}

-- The comparison of places is a total order.
o : IsTotalOrder place_cmp
o = place_cmp-total

-- True is not the same as false.
true_false : true ≡ false → ⊥
true_false e = cc

-- Numbers that are tested as the same are the same.
num : (a b : ℕ) → (a == b) ≡ true → a ≡ b
num a b e = grind (arith, nat_tests, e)

-- A number is tested as the same as itself.
same_number : (a : ℕ) → (a == a) ≡ true
same_number a = grind (arith, nat_tests)

-- a place is itself
pub itself : (p : Place) → is_place p p ≡ true
itself p = ap is_eq (tied_itself o p)

-- An answer that is tested as equal is equal.
equal_is : (answer : Ordering) → is_eq answer ≡ true → answer ≡ Equal
equal_is Less is = cc
equal_is Equal is = refl
equal_is Greater is = cc

-- Numbers that are tested as different do not compare as equal.
other_number : (a b : ℕ) → (b == a) ≡ false → is_eq (nat_cmp a b) ≡ false
other_number a b e = go (nat_lt a b) refl
  where
    go : (t : Bool) → nat_lt a b ≡ t → is_eq (nat_cmp a b) ≡ false
    go true f = ap is_eq (sym (nat_cmp_is a b Less (grind (arith, nat_tests, f))))
    go false f = ap is_eq (sym (nat_cmp_is a b Greater (grind (arith, nat_tests, e, f))))

-- Where the first of two comparisons is not equal, neither are both in turn.
then_other : (r s : Ordering) → is_eq r ≡ false → is_eq (ordering_then r s) ≡ false
then_other Less s e = refl
then_other Equal s e = absurd (true_false e)
then_other Greater s e = refl

module _ (table : ℕ) where
  -- an entry of another table is not looked at
  skip : (e : Place × Row) (es : State) → (e.0.table == table) ≡ false → (key : ℤ)
      → at_place (e ∷ es) (place_at table key) ≡ at_place es (place_at table key)
  skip e es other key = ap
      (λ b. cond b (Some e.1) (at_place es (place_at table key)))
      (then_other (nat_cmp table e.0.table) (int_cmp key e.0.key) (other_number table e.0.table other))

  -- An entry adds its row to the contents exactly where it is of the table.
  kept : (e : Place × Row) (es : State) (b : Bool) → (e.0.table == table) ≡ b
      → contents_of table (e ∷ es) ≡ cond b (e.1 ∷ contents_of table es) (contents_of table es)
  kept e es true is = ap (λ b. cons_option (cond b (Some e.1) None) (contents_of table es)) is
  kept e es false is = ap (λ b. cons_option (cond b (Some e.1) None) (contents_of table es)) is

  -- A place of the table is the one of the table and its key.
  own_place : (p : Place) → (p.table == table) ≡ true → place_at table p.key ≡ p
  own_place p is = ap (λ (t : ℕ). place_at t p.key) (sym (num p.table table is))

  -- An entry of the table is found at its own key.
  found : (e : Place × Row) (es : State) → (e.0.table == table) ≡ true → at_place (e ∷ es) (place_at table e.0.key) ≡ Some e.1
  found e es is =
      ap (at_place (e ∷ es)) (own_place e.0 is)
      ∙ ap (λ b. cond b (Some e.1) (at_place es e.0)) (itself e.0)

  -- Nothing is not a row.
  none_some : (v : Row) → None ≡ Some v → ⊥
  none_some v e = cc

  -- What two equal options hold is the same row.
  some_same : (v w : Row) → Some v ≡ Some w → v ≡ w
  some_same v w e = cc

  -- both maps have the same row at each key of the table
  abbrev pub Same : State → State → Type 0
  Same xs ys = (key : ℤ) → at_place xs (place_at table key) ≡ at_place ys (place_at table key)

  -- A map without any row of the table has no contents of it.
  none_same : (ys : State) → ((key : ℤ) → None ≡ at_place ys (place_at table key)) → [] ≡ contents_of table ys
  none_same [] same = refl
  none_same (e ∷ ys) same = go (e.0.table == table) refl (λ is. none_same ys (λ key. same key ∙ skip e ys is key))
    where
      go : (b : Bool) → (e.0.table == table) ≡ b → ((e.0.table == table) ≡ false → [] ≡ contents_of table ys) → [] ≡ contents_of table (e ∷ ys)
      go true is rest = absurd (none_some e.1 (same e.0.key ∙ found e ys is))
      go false is rest = rest is ∙ sym (kept e ys false is)

  -- A place below the first of a map in order has no entry in it.
  below_all : (d : Place × Row) (e : Place × Row) (ys : State) → place_cmp d.0 e.0 ≡ Less → InOrder (e ∷ ys)
      → (q : Place) → is_place q d.0 ≡ true → at_place (e ∷ ys) q ≡ None
  below_all d e ys less order q is =
      none_below (e ∷ ys) d.0 q (flipped d.0 q is)
      (All-cons (λ place. place_cmp d.0 place ≡ Less) e.0 (keys_of ys) less
      (All-weaker (λ place. place_cmp e.0 place ≡ Less) (λ place. place_cmp d.0 place ≡ Less) (λ x f. o.trans d.0 e.0 x less f) (keys_of ys) order.0))
    where
      flipped : (k q : Place) → is_place q k ≡ true → is_eq (place_cmp k q) ≡ true
      flipped k q e = ap is_eq (tied_back o q k (equal_is (place_cmp q k) e))

  -- The place of the first entry has no entry behind it in a map in order.
  behind_all : (d : Place × Row) (xs : State) → InOrder (d ∷ xs) → (q : Place) → is_place q d.0 ≡ true → at_place xs q ≡ None
  behind_all d xs order q is = none_below xs d.0 q (ap is_eq (tied_back o q d.0 (equal_is (place_cmp q d.0) is))) order.0

  -- At another place than the first entry's is what the rest has there.
  rest_at : (d : Place × Row) (xs : State) (q : Place) → is_place q d.0 ≡ false → at_place (d ∷ xs) q ≡ at_place xs q
  rest_at d xs q is = ap (λ b. cond b (Some d.1) (at_place xs q)) is

  module _ (d : Place × Row) (xs : State) (mine : (d.0.table == table) ≡ true) (order : InOrder (d ∷ xs))
      (ih : (ys : State) → InOrder ys → Same xs ys → contents_of table xs ≡ contents_of table ys) where
    q : Place
    q = place_at table d.0.key

    here : is_place (place_at table d.0.key) d.0 ≡ true
    here = ap (λ p. is_place p d.0) (own_place d.0 mine) ∙ itself d.0

    inner : (ys : State) → InOrder ys → Same (d ∷ xs) ys → contents_of table (d ∷ xs) ≡ contents_of table ys
    inner [] ordered same = absurd (none_some d.1 (sym (same d.0.key) ∙ found d xs mine))
    inner (e ∷ ys) ordered same = go (e.0.table == table) refl (λ is. inner ys ordered.1 (λ key. same key ∙ skip e ys is key))
      where
        tails : place_cmp d.0 e.0 ≡ Equal → Same xs ys
        tails tied key = at (is_place (place_at table key) d.0) refl
          where
            alike : is_place (place_at table key) d.0 ≡ is_place (place_at table key) e.0
            alike = ap is_eq (alike_right o d.0 e.0 (place_at table key) tied)

            at : (b : Bool) → is_place (place_at table key) d.0 ≡ b → at_place xs (place_at table key) ≡ at_place ys (place_at table key)
            at true is = behind_all d xs order (place_at table key) is ∙ sym (behind_all e ys ordered (place_at table key) (sym alike ∙ is))
            at false is =
                sym (rest_at d xs (place_at table key) is) ∙ same key
                ∙ rest_at e ys (place_at table key) (sym alike ∙ is)

        by : (e.0.table == table) ≡ true → (r : Ordering) → place_cmp d.0 e.0 ≡ r → contents_of table (d ∷ xs) ≡ contents_of table (e ∷ ys)
        by its Less is = absurd (none_some d.1 (sym (sym (found d xs mine) ∙ same d.0.key ∙ below_all d e ys is ordered (place_at table d.0.key) here)))
        by its Greater is =
            let less : place_cmp e.0 d.0 ≡ Less = o.antisymm e.0 d.0 ∙ ap ordering_reverse is in
            let there : is_place (place_at table e.0.key) e.0 ≡ true = ap (λ p. is_place p e.0) (own_place e.0 its) ∙ itself e.0 in
            absurd (none_some e.1 (sym (below_all e d xs less order (place_at table e.0.key) there) ∙ same e.0.key ∙ found e ys its))
        by its Equal is =
            let there : is_place (place_at table d.0.key) e.0 ≡ true =
            sym (ap is_eq (alike_right o d.0 e.0 (place_at table d.0.key) is)) ∙ here in
            let value : d.1 ≡ e.1 = some_same d.1 e.1
            (sym (found d xs mine) ∙ same d.0.key ∙ ap (λ b. cond b (Some e.1) (at_place ys (place_at table d.0.key))) there) in
            kept d xs true mine ∙ ap (λ v. v ∷ contents_of table xs) value ∙ ap (λ vs. e.1 ∷ vs) (ih ys ordered.1 (tails is)) ∙ sym (kept e ys true its)

        go : (b : Bool) → (e.0.table == table) ≡ b → ((e.0.table == table) ≡ false → contents_of table (d ∷ xs) ≡ contents_of table ys)
            → contents_of table (d ∷ xs) ≡ contents_of table (e ∷ ys)
        go true is rest = by is (place_cmp d.0 e.0) refl
        go false is rest = rest is ∙ sym (kept e ys false is)

  -- Two maps that have the same of a table have the same contents of it.
  pub same_contents : (xs ys : State) → InOrder xs → InOrder ys → Same xs ys → contents_of table xs ≡ contents_of table ys
  same_contents [] ys order ordered same = none_same ys same
  same_contents (d ∷ xs) ys order ordered same = go (d.0.table == table) refl (λ zs ordered same. same_contents xs zs order.1 ordered same)
    where
      go : (b : Bool) → (d.0.table == table) ≡ b
          → ((zs : State) → InOrder zs → Same xs zs → contents_of table xs ≡ contents_of table zs) → contents_of table (d ∷ xs) ≡ contents_of table ys
      go true is rest = inner d xs is order rest ys ordered same
      go false is rest = kept d xs false is ∙ rest ys ordered (λ key. sym (skip d xs is key) ∙ same key)

  -- ---- rows put at their places

  -- rows of different keys are as many there
  abbrev pub Fresh : List Row → Type 0
  Fresh [] = Unit {0}
  Fresh (row ∷ rows) = ((other : Row) → Among other rows → key_of row ≡ key_of other → ⊥) × Fresh rows

  -- Rows of different keys have different places.
  key_apart : (row other : Row) → (key_of row ≡ key_of other → ⊥) → is_place (place_of table other) (place_of table row) ≡ false
  key_apart row other ne = is_place-of table (key_of other) row ∙ go (int_eq (key_of row) (key_of other)) refl
    where
      go : (b : Bool) → int_eq (key_of row) (key_of other) ≡ b → int_eq (key_of row) (key_of other) ≡ false
      go true e = absurd (ne ((Decides-int_eq (key_of row) (key_of other)).0 e))
      go false e = e

  -- rows with new keys add as many as they are
  pub put_count : (rows : List Row) (acc : State) → Fresh rows
      → ((row : Row) → Among row rows → at_place acc (place_of table row) ≡ None)
      → length (contents_of table (put table acc rows)) ≡ length (contents_of table acc) + length rows
  put_count [] acc fresh none = omega arith
  put_count (row ∷ rows) acc fresh none =
      let kept_rows : State → List Row = filter_map (λ (entry : Place × Row). cond (entry.0.table == table) (Some entry.1) None) in
      let one = length_permutation (row ∷ kept_rows acc) (kept_rows (insert_entry place_cmp acc (place_of table row) row)) (IsPermutation-insert_entry place_cmp-total (λ (entry : Place × Row). cond (entry.0.table == table) (Some entry.1) None) acc (place_of table row) row row
      (ap (λ b. cond b (Some row) None) (same_number table)) (none row (inl refl))) in
      let rest = put_count rows (insert_entry place_cmp acc (place_of table row) row) fresh.1
      (λ other a. at-insert acc (place_of table row) row (place_of table other)
      ∙ ap (λ b. cond b (Some row) (at_place acc (place_of table other))) (key_apart row other (fresh.0 other a)) ∙ none other (inr a)) in
      omega (arith, one, rest)
