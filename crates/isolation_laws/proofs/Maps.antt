-- Maps in the order of their places: what passes a test of places is told by look-ups.
use Rattle.std.proofs.Common.{◌≡◌, ℕ, ℤ, Bool, true, false, cond, List, [], ◌∷◌, None, Some, Ordering, Less, Equal, Greater, int_cmp, refl, sym, ap, ◌∙◌}
use Rattle.std.specs.Cmp.{IsTotalOrder, tied_itself}
use Rattle.std.specs.List.{cons_option, filter_map}
use Rattle.std.specs.Map.{keys_of}
use Rattle.std.specs.Ordering.{is_eq, nat_cmp, ordering_then, ordering_reverse}
use Rattle.std.proofs.lemmas.List.Elements.{All-cons, All-weaker}
use Rattle.std.specs.FinMap.{int_cmp-IsAntisymmetric, nat_cmp-IsAntisymmetric}
use Rattle.cell_model.specs.declared.cell.Cell.{Cell}
use Rattle.isolation_spec.specs.Order.{InOrder}
use Rattle.isolation_laws.proofs.Overlays.{none_below}
use Rattle.isolation_laws.proofs.Rows.{place_cmp-total}
use Rattle.isolation_spec.specs.Contents.{State, at_place, is_place, place_cmp}
use Rattle.isolation_spec.specs.declared.place.Place.{Place}

-- The comparison of places is a total order.
o : IsTotalOrder place_cmp
o = place_cmp-total

-- a place is itself
pub itself : (p : Place) → is_place p p ≡ true
itself p = ap is_eq (tied_itself o p)

-- An answer that is tested as equal is equal.
equal_is : (answer : Ordering) → is_eq answer ≡ true → answer ≡ Equal
equal_is Less is = cc
equal_is Equal is = refl
equal_is Greater is = cc

-- places that test as one are one
pub one_place : (p q : Place) → is_place p q ≡ true → p ≡ q
one_place p q is = go (nat_cmp p.table q.table) refl is
  where
    go : (r : Ordering) → nat_cmp p.table q.table ≡ r → is_eq (ordering_then r (int_cmp p.key q.key)) ≡ true → p ≡ q
    go Less e is = cc
    go Equal e is = both (nat_cmp-IsAntisymmetric p.table q.table e) (int_cmp-IsAntisymmetric p.key q.key (equal_is (int_cmp p.key q.key) is))
      where
        both : p.table ≡ q.table → p.key ≡ q.key → p ≡ q
        both a b = ap (λ (t : ℕ). record { table = t; key = p.key }) a ∙ ap (λ (k : ℤ). record { table = q.table; key = k }) b
    go Greater e is = cc

module _ (test : Place → Bool) where
  -- the rows at places that pass
  abbrev pub chosen : State → List (List Cell)
  chosen rows = filter_map (λ entry. cond (test entry.0) (Some entry.1) None) rows

  -- True is not the same as false.
  true_false : true ≡ false → ⊥
  true_false e = cc

  -- an entry that does not pass is not looked at
  skip : (e : Place × List Cell) (es : State) → test e.0 ≡ false → (p : Place) → test p ≡ true → at_place (e ∷ es) p ≡ at_place es p
  skip e es other p passes = go (is_place p e.0) refl
    where
      go : (b : Bool) → is_place p e.0 ≡ b → cond (is_place p e.0) (Some e.1) (at_place es p) ≡ at_place es p
      go true is = absurd (true_false (sym passes ∙ ap test (one_place p e.0 is) ∙ other))
      go false is = ap (λ b. cond b (Some e.1) (at_place es p)) is

  -- An entry adds its row exactly where it passes.
  kept : (e : Place × List Cell) (es : State) (b : Bool) → test e.0 ≡ b → chosen (e ∷ es) ≡ cond b (e.1 ∷ chosen es) (chosen es)
  kept e es true is = ap (λ b. cons_option (cond b (Some e.1) None) (chosen es)) is
  kept e es false is = ap (λ b. cons_option (cond b (Some e.1) None) (chosen es)) is

  -- An entry is found at its own place.
  found : (e : Place × List Cell) (es : State) → at_place (e ∷ es) e.0 ≡ Some e.1
  found e es = ap (λ b. cond b (Some e.1) (at_place es e.0)) (itself e.0)

  -- Nothing is not a row.
  none_some : (v : List Cell) → None ≡ Some v → ⊥
  none_some v e = cc

  -- What two equal options hold is the same row.
  some_same : (v w : List Cell) → Some v ≡ Some w → v ≡ w
  some_same v w e = cc

  -- both maps have the same row at each place that passes
  abbrev pub Same : State → State → Type 0
  Same xs ys = (p : Place) → test p ≡ true → at_place xs p ≡ at_place ys p

  -- A map without a row at a place that passes has none chosen.
  none_same : (ys : State) → ((p : Place) → test p ≡ true → None ≡ at_place ys p) → [] ≡ chosen ys
  none_same [] same = refl
  none_same (e ∷ ys) same = go (test e.0) refl (λ is. none_same ys (λ p passes. same p passes ∙ skip e ys is p passes))
    where
      go : (b : Bool) → test e.0 ≡ b → (test e.0 ≡ false → [] ≡ chosen ys) → [] ≡ chosen (e ∷ ys)
      go true is rest = absurd (none_some e.1 (same e.0 is ∙ found e ys))
      go false is rest = rest is ∙ sym (kept e ys false is)

  -- A place below the first of a map in order has no entry in it.
  below_all : (d e : Place × List Cell) (ys : State) → place_cmp d.0 e.0 ≡ Less → InOrder (e ∷ ys) → at_place (e ∷ ys) d.0 ≡ None
  below_all d e ys less order =
      none_below (e ∷ ys) d.0 d.0 (itself d.0)
      (All-cons (λ place. place_cmp d.0 place ≡ Less) e.0 (keys_of ys) less
      (All-weaker (λ place. place_cmp e.0 place ≡ Less) (λ place. place_cmp d.0 place ≡ Less) (λ x f. o.trans d.0 e.0 x less f) (keys_of ys) order.0))

  -- The place of the first entry has no entry behind it in a map in order.
  behind_all : (d : Place × List Cell) (xs : State) → InOrder (d ∷ xs) → at_place xs d.0 ≡ None
  behind_all d xs order = none_below xs d.0 d.0 (itself d.0) order.0

  -- At another place than the first entry's is what the rest has there.
  rest_at : (d : Place × List Cell) (xs : State) (q : Place) → is_place q d.0 ≡ false → at_place (d ∷ xs) q ≡ at_place xs q
  rest_at d xs q is = ap (λ b. cond b (Some d.1) (at_place xs q)) is

  module _ (d : Place × List Cell) (xs : State) (mine : test d.0 ≡ true) (order : InOrder (d ∷ xs))
      (ih : (ys : State) → InOrder ys → Same xs ys → chosen xs ≡ chosen ys) where
    inner : (ys : State) → InOrder ys → Same (d ∷ xs) ys → chosen (d ∷ xs) ≡ chosen ys
    inner [] ordered same = absurd (none_some d.1 (sym (same d.0 mine) ∙ found d xs))
    inner (e ∷ ys) ordered same = go (test e.0) refl (λ is. inner ys ordered.1 (λ p passes. same p passes ∙ skip e ys is p passes))
      where
        tails : d.0 ≡ e.0 → Same xs ys
        tails tied p passes = at (is_place p d.0) refl
          where
            at : (b : Bool) → is_place p d.0 ≡ b → at_place xs p ≡ at_place ys p
            at true is =
                let here : p ≡ d.0 = one_place p d.0 is in
                ap (at_place xs) here ∙ behind_all d xs order
                ∙ sym (ap (at_place ys) (here ∙ tied) ∙ behind_all e ys ordered)
            at false is =
                sym (rest_at d xs p is) ∙ same p passes
                ∙ rest_at e ys p (ap (is_place p) (sym tied) ∙ is)

        by : test e.0 ≡ true → (r : Ordering) → place_cmp d.0 e.0 ≡ r → chosen (d ∷ xs) ≡ chosen (e ∷ ys)
        by its Less is = absurd (none_some d.1 (sym (below_all d e ys is ordered) ∙ sym (same d.0 mine) ∙ found d xs))
        by its Greater is =
            let less : place_cmp e.0 d.0 ≡ Less = o.antisymm e.0 d.0 ∙ ap ordering_reverse is in
            absurd (none_some e.1 (sym (below_all e d xs less order) ∙ same e.0 its ∙ found e ys))
        by its Equal is =
            let tied : d.0 ≡ e.0 = one_place d.0 e.0 (ap is_eq is) in
            let value : d.1 ≡ e.1 = some_same d.1 e.1 (sym (found d xs) ∙ same d.0 mine ∙ ap (at_place (e ∷ ys)) tied ∙ found e ys) in
            kept d xs true mine ∙ ap (λ v. v ∷ chosen xs) value ∙ ap (λ vs. e.1 ∷ vs) (ih ys ordered.1 (tails tied)) ∙ sym (kept e ys true its)

        go : (b : Bool) → test e.0 ≡ b → (test e.0 ≡ false → chosen (d ∷ xs) ≡ chosen ys) → chosen (d ∷ xs) ≡ chosen (e ∷ ys)
        go true is rest = by is (place_cmp d.0 e.0) refl
        go false is rest = rest is ∙ sym (kept e ys false is)

  -- Two maps that have the same where the test passes have the same chosen.
  pub same_chosen : (xs ys : State) → InOrder xs → InOrder ys → Same xs ys → chosen xs ≡ chosen ys
  same_chosen [] ys order ordered same = none_same ys same
  same_chosen (d ∷ xs) ys order ordered same = go (test d.0) refl (λ zs ordered same. same_chosen xs zs order.1 ordered same)
    where
      go : (b : Bool) → test d.0 ≡ b
          → ((zs : State) → InOrder zs → Same xs zs → chosen xs ≡ chosen zs) → chosen (d ∷ xs) ≡ chosen ys
      go true is rest = inner d xs is order rest ys ordered same
      go false is rest = kept d xs false is ∙ rest ys ordered (λ p passes. sym (skip d xs is p passes) ∙ same p passes)
