-- The next part that an event touches.
use Rattle.std.proofs.Common.{◌≡◌, ◌⊎◌, ℕ, ◌<◌, ◌≤◌, Bool, true, false, nat_le, refl, None, Some, length, subst, sym, arith}
use mathlib.Core.Logic.{inl, inr}
use Rattle.std.specs.List.{list_any}
use Rattle.std.proofs.lemmas.Bool.Decides.{nat_tests}
use Rattle.std.specs.Prelude.{slice_get}
use Rattle.core_parts.specs.Hands.{Held, in_hand}
use Rattle.core_parts.specs.declared.least.Least.{Least}
use Rattle.core_parts.specs.Keyed.{IsKeyed}
use Rattle.core_parts.specs.Least.{offered_all}
use Rattle.core_parts.specs.Touched.{touched_names}
use Rattle.core_parts.proofs.Names.{touching_any, touching_beyond}
use Rattle.core_parts.proofs.Numbered.{least_is_next, next_same}
use Rattle.event_spec.specs.Effects.{CoreEvent}
use Rattle.event_spec.specs.Parts.{Shape, names, same_name}
use Rattle.event_spec.specs.Touched.{passes_test, touching}
use Rattle.hall_rule.specs.Hands.{IsNext}

module _ (sh : Shape) (hand : Held) (e : CoreEvent) (keyed : IsKeyed e) (from : ℕ) (least : Least)
    (is : least ≡ offered_all sh (touched_names sh (in_hand sh hand) e) (record { from = from; best = None })) where
  -- the least number that is offered is the next part of all that the event touches
  pub whole : IsNext (touching sh e hand) from (length (names sh)) least.best
  whole = subst (λ (l : Least). IsNext (touching sh e hand) from (length (names sh)) l.best) (sym is)
      (next_same (λ k. list_any (λ w. passes_test (same_name w) (slice_get (names sh) k)) (touched_names sh (in_hand sh hand) e)) (touching sh e hand) from (length (names sh))
      (offered_all sh (touched_names sh (in_hand sh hand) e) (record { from = from; best = None })).best
      (touching_any sh hand e keyed)
      (least_is_next sh from (touched_names sh (in_hand sh hand) e)))

  -- it is the next in the hand where it is within
  pub found : (n : ℕ) → least.best ≡ Some n → n < length hand → IsNext (touching sh e hand) from (length hand) (Some n)
  found n at low = let w = subst (IsNext (touching sh e hand) from (length (names sh))) at whole in (w.0, low, w.2, w.3)

  -- where it is beyond the hand there is none
  pub high : (n : ℕ) → least.best ≡ Some n → length hand ≤ n → IsNext (touching sh e hand) from (length hand) None
  high n at above = let w = subst (IsNext (touching sh e hand) from (length (names sh))) at whole in
      λ k low less. w.3 k low (omega (arith, above, less))

  -- and none where none is offered
  pub none : least.best ≡ None → IsNext (touching sh e hand) from (length hand) None
  none at = let w = subst (IsNext (touching sh e hand) from (length (names sh))) at whole in λ k low less. go k low (split k (length (names sh)))
    where
      split : (k n : ℕ) → (k < n) ⊎ (n ≤ k)
      split k n = by (nat_le n k) refl
        where
          above : (a b : ℕ) → nat_le a b ≡ true → a ≤ b
          above a b e = grind (arith, nat_tests)

          below : (a b : ℕ) → nat_le a b ≡ false → b < a
          below a b e = grind (arith, nat_tests)

          by : (c : Bool) → nat_le n k ≡ c → (k < n) ⊎ (n ≤ k)
          by true e = inr (above n k e)
          by false e = inl (below n k e)

      go : (k : ℕ) → from ≤ k → (k < length (names sh)) ⊎ (length (names sh) ≤ k) → touching sh e hand k ≡ false
      go k low (inl less) = subst (IsNext (touching sh e hand) from (length (names sh))) at whole k low less
      go k low (inr above) = touching_beyond sh hand e k above
