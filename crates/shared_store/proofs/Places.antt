-- Values at places of a map.
use Rattle.std.proofs.Common.{◌≡◌, true, cond, [], ◌∷◌, None, Some, Ordering, Less, Equal, Greater, refl, ap, ◌∙◌}
use Rattle.std.specs.BTreeMap.{insert_entry}
use Rattle.std.specs.Map.{remove_entry}
use Rattle.std.specs.Ordering.{is_eq, match_ordering, ordering_reverse}
use Rattle.isolation_laws.proofs.Rows.{place_cmp-total}
use Rattle.isolation_spec.specs.Contents.{PlaceMap, at_place, is_place, place_cmp}
use Rattle.isolation_spec.specs.declared.place.Place.{Place}

-- An answer that is its own reverse is equal.
self_equal : (r : Ordering) → r ≡ ordering_reverse r → r ≡ Equal
self_equal Less h = absurd (let never : ⊥ = cc in never)
self_equal Equal h = refl
self_equal Greater h = absurd (let never : ⊥ = cc in never)

-- A place compares as equal to itself.
pub same : (p : Place) → place_cmp p p ≡ Equal
same p = self_equal (place_cmp p p) (place_cmp-total.antisymm p p)

-- A place is tested as the same as itself.
pub itself : (p : Place) → is_place p p ≡ true
itself p = ap is_eq (same p)

-- what was laid at a place where nothing lay is taken away again
pub laid_away : {X : Type 0} (m : PlaceMap X) (p : Place) (one : X) → at_place m p ≡ None → remove_entry (is_place p) (insert_entry place_cmp m p one) ≡ m
laid_away {X} [] p one none' = ap (λ b. cond {A = PlaceMap X} b [] ((p, one) ∷ [])) (itself p)
laid_away {X} (e ∷ m) p one none' = go (place_cmp p e.0) refl none' (laid_away m p one)
  where
    some_none : (x : X) → Some x ≡ None → ⊥
    some_none x h = cc

    go : (r : Ordering) → place_cmp p e.0 ≡ r → cond (is_eq r) (Some e.1) (at_place m p) ≡ None → (at_place m p ≡ None → remove_entry (is_place p) (insert_entry place_cmp m p one) ≡ m)
        → remove_entry (is_place p) (match_ordering r ((p, one) ∷ e ∷ m) ((e.0, one) ∷ m) (e ∷ insert_entry place_cmp m p one)) ≡ e ∷ m
    go Less is gone later = ap (λ b. cond b (e ∷ m) ((p, one) ∷ remove_entry (is_place p) (e ∷ m))) (itself p)
    go Equal is gone later = absurd (some_none e.1 gone)
    go Greater is gone later =
        ap (λ r. cond (is_eq r) (insert_entry place_cmp m p one) (e ∷ remove_entry (is_place p) (insert_entry place_cmp m p one))) is
        ∙ ap (λ (es : PlaceMap X). e ∷ es) (later gone)
