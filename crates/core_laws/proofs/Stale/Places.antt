-- Which write sets have a place that passes a test.
use Rattle.std.proofs.Common.{◌≡◌, ℕ, ℤ, ◌||◌, int_cmp, Bool, true, false, cond, [], ◌∷◌, Some, is_some, Ordering, Less, Equal, Greater, refl, sym, ap, ◌∙◌}
use Rattle.std.specs.List.{list_any}
use Rattle.std.specs.Ordering.{is_eq, nat_cmp, ordering_then}
use Rattle.std.specs.Cmp.{tied_itself}
use Rattle.std.specs.FinMap.{int_cmp-IsAntisymmetric, nat_cmp-IsAntisymmetric}
use Rattle.isolation_laws.proofs.Rows.{place_cmp-total}
use Rattle.isolation_spec.specs.Contents.{at_place, is_place, PlaceMap}
use Rattle.isolation_spec.specs.declared.place.Place.{Place}
use Rattle.core_laws.proofs.Stale.Lasts.{true_false}

-- An answer that is tested as equal is equal.
equal_is : (answer : Ordering) → is_eq answer ≡ true → answer ≡ Equal
equal_is Less is = cc
equal_is Equal is = refl
equal_is Greater is = cc

-- Places that test as one are one.
one_place : (p q : Place) → is_place p q ≡ true → p ≡ q
one_place p q is = go (nat_cmp p.table q.table) refl is
  where
    go : (r : Ordering) → nat_cmp p.table q.table ≡ r → is_eq (ordering_then r (int_cmp p.key q.key)) ≡ true → p ≡ q
    go Less e is = cc
    go Equal e is = both (nat_cmp-IsAntisymmetric p.table q.table e) (int_cmp-IsAntisymmetric p.key q.key (equal_is (int_cmp p.key q.key) is))
      where
        both : p.table ≡ q.table → p.key ≡ q.key → p ≡ q
        both a b = ap (λ (t : ℕ). record { table = t; key = p.key }) a ∙ ap (λ (k : ℤ). record { table = q.table; key = k }) b
    go Greater e is = cc

-- some entry's place passes
abbrev pub has : {X : Type 0} → (Place → Bool) → PlaceMap X → Bool
has {X} test ws = list_any (λ (w : Place × X). test w.0) ws

-- the map has a place
abbrev pub has_at : {X : Type 0} → Place → PlaceMap X → Bool
has_at p ws = is_some (at_place ws p)

-- a place that passes and is there is one
pub has_place : {X : Type 0} (test : Place → Bool) (ws : PlaceMap X) (p : Place) → test p ≡ true → has_at p ws ≡ true → has test ws ≡ true
has_place test [] p passes wrote = absurd (true_false (sym wrote))
has_place {X} test (e ∷ es) p passes wrote = go (is_place p e.0) refl wrote (λ rest. has_place test es p passes rest)
  where
    or-right : (a b : Bool) → b ≡ true → (a || b) ≡ true
    or-right true b is = refl
    or-right false b is = is

    or-left : (a b : Bool) → a ≡ true → (a || b) ≡ true
    or-left true b is = refl
    or-left false b is = absurd (true_false (sym is))

    go : (b : Bool) → is_place p e.0 ≡ b → is_some (cond (is_place p e.0) (Some e.1) (at_place es p)) ≡ true → (has_at p es ≡ true → has test es ≡ true) → (test e.0 || has test es) ≡ true
    go true is w rest = or-left (test e.0) (has test es) (ap test (sym (one_place p e.0 is)) ∙ passes)
    go false is w rest = or-right (test e.0) (has test es) (rest (sym (ap (λ b. is_some (cond b (Some e.1) (at_place es p))) is) ∙ w))

-- where some entry's place passes, it is a place that is there
pub place_in : {X : Type 0} (test : Place → Bool) (ws : PlaceMap X) → has test ws ≡ true → (p : Place) × (test p ≡ true) × (has_at p ws ≡ true)
place_in test [] is = absurd (true_false (sym is))
place_in test (e ∷ es) is = go (test e.0) refl is (place_in test es)
  where
    more : (p : Place) → has_at p es ≡ true → has_at p (e ∷ es) ≡ true
    more p w = by (is_place p e.0) refl
      where
        by : (b : Bool) → is_place p e.0 ≡ b → is_some (cond (is_place p e.0) (Some e.1) (at_place es p)) ≡ true
        by true t = ap (λ b. is_some (cond b (Some e.1) (at_place es p))) t
        by false t = ap (λ b. is_some (cond b (Some e.1) (at_place es p))) t ∙ w

    go : (b : Bool) → test e.0 ≡ b → (test e.0 || has test es) ≡ true → (has test es ≡ true → (p : Place) × (test p ≡ true) × (has_at p es ≡ true))
        → (p : Place) × (test p ≡ true) × (has_at p (e ∷ es) ≡ true)
    go true t i rest = (e.0, t, ap (λ b. is_some (cond b (Some e.1) (at_place es e.0))) (ap is_eq (tied_itself place_cmp-total e.0)))
    go false t i rest = let r = rest (sym (ap (λ b. b || has test es) t) ∙ i) in (r.0, r.1, more r.0 r.2)

-- Maps with the same places have one that passes alike.
pub has_alike : {X Y : Type 0} (test : Place → Bool) (one : PlaceMap X) (other : PlaceMap Y)
    → ((p : Place) → has_at p one ≡ true → has_at p other ≡ true) → ((p : Place) → has_at p other ≡ true → has_at p one ≡ true)
    → has test one ≡ has test other
has_alike test one other there back = go (has test one) (has test other) refl refl
  where
    go : (a b : Bool) → has test one ≡ a → has test other ≡ b → has test one ≡ has test other
    go true true x y = x ∙ sym y
    go false false x y = x ∙ sym y
    go true false x y = let p = place_in test one x in absurd (true_false (sym (has_place test other p.0 p.1 (there p.0 p.2)) ∙ y))
    go false true x y = let p = place_in test other y in absurd (true_false (sym (has_place test one p.0 p.1 (back p.0 p.2)) ∙ x))
