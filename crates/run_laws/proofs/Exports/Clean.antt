-- A write set without a key of a table leaves its contents.
use Rattle.std.proofs.Common.{◌≡◌, ℕ, ℤ, Bool, true, false, cond, ◌==◌, List, [], ◌∷◌, Option, None, Some, Ordering, Less, Equal, Greater, nat_lt, int_cmp, option_map, refl, sym, ap, ◌∙◌, arith}
use Rattle.std.specs.Prelude.{pos}
use Rattle.std.specs.Cmp.{nat_cmp_is}
use Rattle.std.specs.List.{find}
use Rattle.std.specs.Ordering.{is_eq, nat_cmp, ordering_then}
use Rattle.std.proofs.lemmas.Bool.Decides.{nat_tests}
use Rattle.cell_model.specs.declared.cell.Cell.{Cell}
use Rattle.isolation_spec.specs.Order.{InOrder}
use Rattle.isolation_laws.proofs.Overlays.{at-laid_over, over}
use Rattle.isolation_spec.specs.Contents.{State, WriteSet, at_place, contents_of, laid_over, place_at}
use Rattle.isolation_spec.specs.declared.place.Place.{Place}
use Rattle.isolation_spec.specs.Contents.{least_key}
use Rattle.store_laws.proofs.Maps.{same_contents}

-- Numbers that a test tells apart do not compare as equal.
other_number : (a b : ℕ) → (b == a) ≡ false → is_eq (nat_cmp a b) ≡ false
other_number a b e = go (nat_lt a b) refl
  where
    go : (t : Bool) → nat_lt a b ≡ t → is_eq (nat_cmp a b) ≡ false
    go true f = ap is_eq (sym (nat_cmp_is a b Less (grind (arith, nat_tests, f))))
    go false f = ap is_eq (sym (nat_cmp_is a b Greater (grind (arith, nat_tests, e, f))))

-- Where the first comparison is not equal, the two in turn are not.
then_other : (r s : Ordering) → is_eq r ≡ false → is_eq (ordering_then r s) ≡ false
then_other Less s e = refl
then_other Equal s e = absurd (let never : true ≡ false = e in let no : ⊥ = cc in no)
then_other Greater s e = refl

module _ (table : ℕ) where
  -- it has nothing at the table's places
  has_none : (key : ℤ) (writes : WriteSet) → least_key table writes ≡ None → at_place writes (place_at table key) ≡ None
  has_none key [] none = refl
  has_none key (w ∷ writes) none = go (w.0.table == table) refl none (has_none key writes)
    where
      go : (b : Bool) → (w.0.table == table) ≡ b
          → option_map (λ (write : Place × Option (List Cell)). write.0.key) (cond b (Some w) (find (λ (write : Place × Option (List Cell)). write.0.table == table) writes)) ≡ None
          → (least_key table writes ≡ None → at_place writes (place_at table key) ≡ None)
          → at_place (w ∷ writes) (place_at table key) ≡ None
      go true is none rest = absurd (let never : ⊥ = cc none in never)
      go false is none rest = ap
          (λ b. cond b (Some w.1) (at_place writes (place_at table key)))
          (then_other (nat_cmp table w.0.table) (int_cmp key w.0.key) (other_number table w.0.table is))
          ∙ rest none

  -- a write set without a key of the table leaves what the table has
  pub contents_stay : (writes : WriteSet) (rows : State) → InOrder rows → InOrder writes → least_key table writes ≡ None
      → contents_of table (laid_over rows writes) ≡ contents_of table rows
  contents_stay writes rows order ordered none = same_contents table (laid_over rows writes) rows
      (at-laid_over rows writes (place_at table (pos 0)) order ordered).1 order
      (λ key. (at-laid_over rows writes (place_at table key) order ordered).0
      ∙ ap (λ (found : Option (Option (List Cell))). over found (at_place rows (place_at table key))) (has_none key writes none))
