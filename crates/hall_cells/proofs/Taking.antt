-- What is in a hand after a take and a give.
use Rattle.std.proofs.Common.{◌≡◌, ◌≢◌, ℕ, zero, suc, ◌<◌, List, [], ◌∷◌, Option, None, Some, length, set, refl, sym, ap, ◌∙◌, arith}
use Rattle.std.specs.Prelude.{slice_get}
use Rattle.atomic_table.specs.Seated.{TableId}
use Rattle.atomic_table.specs.declared.shared.Seat.{Seat}
use Rattle.hall_rule.specs.Hands.{Holds, all_in}
use Rattle.hall_rule.specs.HallInvariant.{hands_of}
use Rattle.hall_rule.specs.Meaning.{Meaning}
use Rattle.hall_rule.specs.declared.view.View.{View}
use Rattle.hall_rule.proofs.Lists.{get_set_else, get_set_here}
use Rattle.hall_steps.proofs.Knowing.{not_none, some_is}
use Rattle.hall_steps.specs.Hall.{EachHand, IsPass, first_of}

module _ {P : Type 0} where
  -- a part that was taken is held
  pub took_holds : (h h' : List (Option P)) (k : ℕ) (p : P) → k < length h → h' ≡ set h k (Some p) → Holds h' k
  took_holds h h' k p lt e = (p, ap (λ x. slice_get x k) e ∙ get_set_here h k (Some p) lt)

  -- what is held after a part was given back is another one, held before
  pub gave_left : (h h' : List (Option P)) (k i : ℕ) → k < length h → h' ≡ set h k None → Holds h' i → (i ≢ k) × Holds h i
  gave_left h h' k i lt e held =
      let f : slice_get (set h k None) i ≡ Some (Some held.0) = ap (λ x. slice_get x i) (sym e) ∙ held.1 in
      let ne : i ≢ k = λ same. not_none held.0 ⊥ (some_is (Some held.0) None (sym f ∙ (ap (slice_get (set h k None)) same ∙ get_set_here h k None lt))) in
      (ne, (held.0, sym (get_set_else h k i None ne) ∙ f))

  -- of the parts held after a take each other one was held before
  pub took_left : (h h' : List (Option P)) (k i : ℕ) (p : P) → h' ≡ set h k (Some p) → i ≢ k → Holds h' i → Holds h i
  took_left h h' k i p e ne held = (held.0, sym (get_set_else h k i (Some p) ne) ∙ (ap (λ x. slice_get x i) (sym e) ∙ held.1))

-- Where each hand has so many places, the first of some hands has.
first_length : {P : Type 0} (n : ℕ) (hands : List (List (Option P))) → 0 < length hands → EachHand (λ h. length h ≡ n) hands → length (first_of hands) ≡ n
first_length n [] lt a = absurd (omega (arith, lt))
first_length n (h ∷ hs) lt a = a.0

-- the first hand of a pass has a place for each part
pub first_room : {P E T F : Type 0} (M : Meaning P E T F) (z : TableId) (s : Seat (Option P) (View E)) (hands : List (List (Option P))) → IsPass M z s hands → 0 < hands_of s.me.0 → length (first_of hands) ≡ length M.start
first_room M z s hands pass lt = let c = pass.count in first_length (length M.start) hands (omega (arith, c, lt)) pass.places

-- where all parts are in, each is held
pub all_held : {P : Type 0} (xs : List P) (k : ℕ) → k < length xs → Holds (all_in xs) k
all_held [] k lt = absurd (omega (arith, lt))
all_held (x ∷ xs) zero lt = (x, refl)
all_held (x ∷ xs) (suc k) lt = all_held xs k (omega (arith, lt))
