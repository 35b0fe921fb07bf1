-- Rows put one after another at their places of a table.
use Rattle.std.proofs.Common.{◌≡◌, ◌⊎◌, Bool, true, false, cond, ℕ, List, [], ◌∷◌, Option, Some, fold, refl, sym, ap, ◌∙◌}
use mathlib.Core.Logic.{inl, inr}
use Rattle.std.specs.BTreeMap.{insert_entry}
use Rattle.block_spec.specs.Slots.{Row}
use Rattle.event_spec.specs.Lawful.{Among}
use Rattle.isolation_laws.proofs.Overlays.{at-insert, order-insert}
use Rattle.isolation_spec.specs.Contents.{State, at_place, is_place, place_cmp, place_of}
use Rattle.isolation_spec.specs.declared.place.Place.{Place}
use Rattle.isolation_spec.specs.Order.{InOrder}

-- True is not the same as false.
true_false : true ≡ false → ⊥
true_false e = cc

module _ (table : ℕ) where
  -- a map with rows put into it, each at its key
  abbrev pub put : State → List Row → State
  put acc rows = fold (λ state row. insert_entry place_cmp state (place_of table row) row) acc rows

  -- a map in order is in order after rows were put
  pub order_put : (rows : List Row) (acc : State) → InOrder acc → InOrder (put acc rows)
  order_put [] acc order = order
  order_put (row ∷ rows) acc order = order_put rows (insert_entry place_cmp acc (place_of table row) row) (order-insert acc (place_of table row) row order)

  -- what is found there, where all rows of the place are one
  pub put_has : (q : Place) (target : Option Row) (rows : List Row) (acc : State)
      → ((row : Row) → Among row rows → is_place q (place_of table row) ≡ true → target ≡ Some row)
      → (at_place acc q ≡ target) ⊎ ((row : Row) × Among row rows × (is_place q (place_of table row) ≡ true))
      → at_place (put acc rows) q ≡ target
  put_has q target [] acc each (inl e) = e
  put_has q target [] acc each (inr h) = absurd h.1
  put_has q target (row ∷ rows) acc each from = go (is_place q (place_of table row)) refl from
      (put_has q target rows (insert_entry place_cmp acc (place_of table row) row) (λ r a is. each r (inr a) is))
    where
      Rest : Type 0
      Rest = (at_place (insert_entry place_cmp acc (place_of table row) row) q ≡ target) ⊎ ((r : Row) × Among r rows × (is_place q (place_of table r) ≡ true))
          → at_place (put (insert_entry place_cmp acc (place_of table row) row) rows) q ≡ target

      next : at_place (insert_entry place_cmp acc (place_of table row) row) q ≡ cond (is_place q (place_of table row)) (Some row) (at_place acc q)
      next = at-insert acc (place_of table row) row q

      at : (h : Row) → is_place q (place_of table h) ≡ true → is_place q (place_of table row) ≡ false → Among h (row ∷ rows) → Rest
          → at_place (put (insert_entry place_cmp acc (place_of table row) row) rows) q ≡ target
      at h there not_here (inl e) rest = absurd (true_false (sym there ∙ ap (λ r. is_place q (place_of table r)) e ∙ not_here))
      at h there not_here (inr a) rest = rest (inr (h, a, there))

      go : (b : Bool) → is_place q (place_of table row) ≡ b
          → (at_place acc q ≡ target) ⊎ ((row' : Row) × Among row' (row ∷ rows) × (is_place q (place_of table row') ≡ true)) → Rest
          → at_place (put (insert_entry place_cmp acc (place_of table row) row) rows) q ≡ target
      go true is f rest = rest (inl (next ∙ ap (λ b. cond b (Some row) (at_place acc q)) is ∙ sym (each row (inl refl) is)))
      go false is (inl e) rest = rest (inl (next ∙ ap (λ b. cond b (Some row) (at_place acc q)) is ∙ e))
      go false is (inr h) rest = at h.0 h.2 is h.1 rest
