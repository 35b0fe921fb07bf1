-- What becomes of the hand when a mark is raised.
use Rattle.std.proofs.Common.{◌≡◌, ℕ, ◌+◌, List, Option, None, Some, length, set, length-set, sym, ap, subst, ◌∙◌}
use Rattle.std.specs.Prelude.{slice_get, slice_index}
use Rattle.std.proofs.lemmas.Option.{slice_get_within}
use Rattle.hall_cells.specs.Laws.{index_of_get}
use Rattle.hall_rule.specs.Hands.{Agrees, Holds, SameRoom}
use Rattle.hall_rule.proofs.Lists.{by_cases, get_set_else, get_set_here}

-- a raised mark stands in the hand where it stood
pub raise_room : (h h' : List (Option ℕ)) (p x y : ℕ) → slice_get h p ≡ Some (Some y) → h' ≡ set h p (Some x) → SameRoom h h'
raise_room h h' p x y there is =
    let lt = slice_get_within h p (Some y) there in
    subst (SameRoom h) (sym is) (record {
      places = length-set h p (Some x);
      away = λ k none'. by_cases k p (slice_get (set h p (Some x)) k ≡ Some None)
          (λ e. let f : Some None ≡ Some (Some y) = sym none' ∙ (ap (slice_get h) e ∙ there) in absurd (cc))
          (λ ne. get_set_else h p k (Some x) ne ∙ none');
      held = λ k old. by_cases k p (Holds (set h p (Some x)) k)
          (λ e. subst (Holds (set h p (Some x))) (sym e) (x, get_set_here h p (Some x) lt))
          (λ ne. (old.0, get_set_else h p k (Some x) ne ∙ old.1));
    })

-- the hand agrees with the marks after the raise, and had the mark as it was before
pub raise_meets : (h h' : List (Option ℕ)) (s : List ℕ) (p was by : ℕ) → Agrees h s → slice_get h p ≡ Some (Some was) → h' ≡ set h p (Some (was + by)) → Agrees h' (set s p (slice_index s p + by)) × (was ≡ slice_index s p)
raise_meets h h' s p was by agrees there is =
    let lt = slice_get_within h p (Some was) there in
    let there' = agrees.1 p was there in
    let value : slice_index s p ≡ was = index_of_get s p was there' in
    let low = slice_get_within s p was there' in
    let t = set s p (slice_index s p + by) in (
      (
        ap length is ∙ (length-set h p (Some (was + by)) ∙ (agrees.0 ∙ sym (length-set s p (slice_index s p + by)))),
        λ k v e.
            let f : slice_get (set h p (Some (was + by))) k ≡ Some (Some v) = ap (λ x. slice_get x k) (sym is) ∙ e in
            by_cases k p (slice_get t k ≡ Some v)
            (λ same.
            let a : Some (Some (was + by)) ≡ Some (Some v) = sym (get_set_here h p (Some (was + by)) lt) ∙ (ap (slice_get (set h p (Some (was + by)))) (sym same) ∙ f) in
            let b : Some (was + by) ≡ Some v = cc in
            ap (slice_get t) same ∙ (get_set_here s p (slice_index s p + by) low ∙ (ap (λ x. Some (x + by)) value ∙ b)))
            (λ ne. get_set_else s p k (slice_index s p + by) ne ∙ agrees.1 k v (sym (get_set_else h p k (Some (was + by)) ne) ∙ f)),
      ),
      sym value,
    )
