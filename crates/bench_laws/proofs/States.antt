-- The states behind the commits, and what stands in them at the keys of a session.
use Rattle.std.proofs.Common.{◌≡◌, inl, inr, ℕ, ◌+◌, ◌-◌, ◌<◌, ◌≤◌, zero, suc, Bool, true, false, cond, ◌&&◌, List, [], ◌∷◌, map, fold, Option, Some, refl, sym, ap, ◌∙◌, arith}
use Rattle.std.specs.Prelude.{is_some}
use Rattle.std.specs.List.{range_with_len}
use Rattle.std.proofs.lemmas.Bool.{false_from_ne_true}
use Rattle.std.proofs.lemmas.List.{map-append}
use Rattle.std.proofs.lemmas.List.FromFn.{take-map-range_with_len}
use Rattle.std.proofs.lemmas.List.Sums.{fold_push}
use Rattle.cell_model.specs.declared.cell.Cell.{Cell}
use Rattle.isolation_spec.specs.Contents.{State, WriteSet, at_place, is_place, laid_over, place_of, state_at}
use Rattle.isolation_spec.specs.declared.place.Place.{Place}
use Rattle.timeline_laws.proofs.Ranges.{range-push}
use Rattle.outcome_spec.specs.Entries.{Entry, is_accepted}
use Rattle.outcome_spec.specs.Runs.{Run, commit_count}
use Rattle.outcome_spec.specs.Conflicts.{has_write}
use Rattle.bench_laws.proofs.Every.{Has}
use Rattle.bench_laws.proofs.Parts.{Wrote, replies_to}
use Rattle.bench_laws.proofs.Told.{Told}
use Rattle.bench_laws.proofs.Writes.{behind_two, laid-over, place-itself, untouched}
use Rattle.bench_laws.proofs.Commits.{commit-facts, run, set-cases, set-is, set_of, transactions}

-- Where something stands at a place, something does behind two writes.
some-behind : (a b : Bool) (p q place : Place) (r s : List Cell) (before : Option (List Cell)) → is_some before ≡ true → is_some (behind_two a p r b q s place before) ≡ true
some-behind a b p q place r s before h = by (b && is_place place q) (a && is_place place p)
  where
    by : (x y : Bool) → is_some (cond x (Some s) (cond y (Some r) before)) ≡ true
    by true y = refl
    by false true = refl
    by false false = h

-- Behind two writes of which the first was made, something stands at its place.
some-own : (a b : Bool) (p q : Place) (r s : List Cell) (before : Option (List Cell)) → a ≡ true → is_some (behind_two a p r b q s p before) ≡ true
some-own a b p q r s before h = by (b && is_place p q)
  where
    by : (x : Bool) → is_some (cond x (Some s) (cond (a && is_place p p) (Some r) before)) ≡ true
    by true = refl
    by false = rw (h, place-itself p) refl

module _ (seed size : ℕ) (replies : List Entry) (told : Told seed size replies) where
  -- The run that the replies tell.
  abbrev the_run : Run
  the_run = run seed size replies told

  -- The transactions of the write rounds.
  abbrev all : List Wrote
  all = transactions seed size replies told

  -- The write set of the commit with a number.
  abbrev set : ℕ → WriteSet
  set k = set_of seed size replies told k

  -- the state behind so many commits
  abbrev pub state : ℕ → State
  state zero = []
  state (suc n) = laid_over (state n) (set (suc n))

  -- The write sets of the first commits, laid one over another, are the state behind them.
  fold-sets : (n : ℕ) → fold laid_over [] (map set (range_with_len 1 n)) ≡ state n
  fold-sets zero = refl
  fold-sets (suc n) =
      let e : suc n ≡ n + 1 = omega arith in
      ap (λ m. fold laid_over [] (map set (range_with_len 1 m))) e
      ∙ ap (λ xs. fold laid_over [] (map set xs)) (range-push n)
      ∙ ap (fold laid_over []) (map-append set (range_with_len 1 n) ((n + 1) ∷ []))
      ∙ fold_push laid_over [] (map set (range_with_len 1 n)) (set (n + 1))
      ∙ ap (λ (s : State). laid_over s (set (n + 1))) (fold-sets n)
      ∙ ap (λ m. laid_over (state n) (set m)) (sym e)

  -- it is the state of the history
  pub state-is : (n : ℕ) → n ≤ commit_count replies → state_at the_run.history n ≡ state n
  state-is n low = ap (fold laid_over []) (take-map-range_with_len set 1 (commit_count replies) n low) ∙ fold-sets n

  -- one commit that does not touch the place
  step-still : (n : ℕ) (place : Place) → ((v : Wrote) → Has v all → v.number ≡ Some (suc n) → has_write place (replies_to v) ≡ true → ⊥) → at_place (state (suc n)) place ≡ at_place (state n) place
  step-still n place none = elim (set-cases seed size replies told (suc n)) [
    | inl empty ↦ ap (λ (own : WriteSet). at_place (laid_over (state n) own) place) empty.0
    | inr its ↦
        ap (λ (own : WriteSet). at_place (laid_over (state n) own) place) its.set_is
        ∙ untouched (state n) its.by place (false_from_ne_true (has_write place (replies_to its.by)) (none its.by its.among its.number))
  ]

  -- Commits that do not touch a place leave it.
  pub still : (place : Place) (m d : ℕ) → ((v : Wrote) (k : ℕ) → Has v all → v.number ≡ Some k → m < k → k ≤ m + d → has_write place (replies_to v) ≡ true → ⊥) → at_place (state (m + d)) place ≡ at_place (state m) place
  still place m zero none = let e : m + zero ≡ m = omega arith in ap (λ n. at_place (state n) place) e
  still place m (suc d) none =
      let e : m + suc d ≡ suc (m + d) = omega arith in
      ap (λ n. at_place (state n) place) e
      ∙ step-still (m + d) place (λ v has is. none v (suc (m + d)) has is (omega arith) (omega arith))
      ∙ still place m d (λ v k has is low high. none v k has is low (omega (arith, high)))

  -- what stands at a place stays
  step-stays : (n : ℕ) (place : Place) → is_some (at_place (state n) place) ≡ true → is_some (at_place (state (suc n)) place) ≡ true
  step-stays n place h = elim (set-cases seed size replies told (suc n)) [
    | inl empty ↦ ap (λ (own : WriteSet). is_some (at_place (laid_over (state n) own) place)) empty.0 ∙ h
    | inr its ↦
        ap (λ (own : WriteSet). is_some (at_place (laid_over (state n) own) place)) its.set_is
        ∙ ap is_some (laid-over (state n) its.by place)
        ∙ some-behind (is_accepted its.by.insert_said) (is_accepted its.by.update_said) (place_of 0 its.by.row) (place_of 0 its.by.change) place its.by.row its.by.change (at_place (state n) place) h
  ]

  -- Where something stands at a place, something does any number of commits later.
  stays : (place : Place) (m d : ℕ) → is_some (at_place (state m) place) ≡ true → is_some (at_place (state (m + d)) place) ≡ true
  stays place m zero h = let e : m + zero ≡ m = omega arith in ap (λ n. is_some (at_place (state n) place)) e ∙ h
  stays place m (suc d) h =
      let e : m + suc d ≡ suc (m + d) = omega arith in
      ap (λ n. is_some (at_place (state n) place)) e ∙ step-stays (m + d) place (stays place m d h)

  -- the state behind a transaction's commit
  pub behind : (w : Wrote) → Has w all → (k : ℕ) → w.number ≡ Some (suc k) → (place : Place)
      → at_place (state (suc k)) place ≡ behind_two (is_accepted w.insert_said) (place_of 0 w.row) w.row (is_accepted w.update_said) (place_of 0 w.change) w.change place (at_place (state k) place)
  behind w among k is place = ap (λ (own : WriteSet). at_place (laid_over (state k) own) place) (set-is seed size replies told w among (suc k) is) ∙ laid-over (state k) w place

  -- Behind its commit a transaction's accepted insert has a row at its place.
  present-at : (w : Wrote) → Has w all → (k : ℕ) → w.number ≡ Some k → 1 ≤ k → is_accepted w.insert_said ≡ true → is_some (at_place (state k) (place_of 0 w.row)) ≡ true
  present-at w among zero is low accepted = absurd (omega (arith, low))
  present-at w among (suc k) is low accepted =
      ap is_some (behind w among k is (place_of 0 w.row))
      ∙ some-own (is_accepted w.insert_said) (is_accepted w.update_said) (place_of 0 w.row) (place_of 0 w.change) w.row w.change (at_place (state k) (place_of 0 w.row)) accepted

  -- a row that was inserted stands from its commit on
  pub present : (w : Wrote) → Has w all → (k n : ℕ) → w.number ≡ Some k → k ≤ n → is_accepted w.insert_said ≡ true → is_some (at_place (state n) (place_of 0 w.row)) ≡ true
  present w among k n is low accepted =
      let e : k + (n - k) ≡ n = omega (arith, low) in
      ap (λ m. is_some (at_place (state m) (place_of 0 w.row))) (sym e)
      ∙ stays (place_of 0 w.row) k (n - k) (present-at w among k is (commit-facts seed size replies told w among k is).least accepted)
