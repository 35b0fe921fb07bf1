-- A new pass takes the greatest session of another, or none.
use Rattle.std.proofs.Common.{◌≡◌, ℕ, ◌^◌, ◌<◌, ◌≤◌, eqb, true, false, cond, List, [], ◌∷◌, length, refl, sym, ap, ◌∙◌, ◌⊎◌, inl, inr, ⊎_elim, true≢false, arith}
use Rattle.atomic_table.specs.Table.{Splits}
use Rattle.hall_rule.specs.EventLog.{Distinct, has}
use Rattle.hall_rule.specs.HallInvariant.{hands_of}
use Rattle.hall_rule.specs.Rule.{Rule}
use Rattle.hall_rule.specs.Meaning.{Meaning}
use Rattle.hall_rule.specs.Views.{dealt, greatest, newcomer, without}
use Rattle.hall_rule.specs.declared.view.View.{View}
use Rattle.hall_rule.proofs.Lists.{by_cases}
use Rattle.hall_rule.proofs.Numbers.{greatest_in, has_cons, has_here, has_without, without_distinct, without_else, without_gone, without_length}
use Rattle.hall_rule.proofs.PassWords.{split_words}
use Rattle.hall_rule.proofs.Splits.{split_kept}
use Rattle.hall_rule.proofs.Halves.{both, parts_of, words_of}

-- the greatest of some sessions is one of them
pub greatest_there : (qs : List ℕ) → 0 < length qs → has (greatest qs) qs ≡ true
greatest_there [] h = absurd (omega (arith, h))
greatest_there (q ∷ qs) h = greatest_in q qs

module _ {P E T F : Type 0} (M : Meaning P E T F) (id : ℕ) (v : View E) (live : v.spent ≡ false) where
  -- The hand of the greatest session goes to a new pass.
  pub splits : Distinct v.sessions → 2 ≤ hands_of v → length v.mine ≤ 2 ^ 56 → Splits (Rule M) id v (dealt v) (newcomer v (greatest v.sessions ∷ []))
  splits distinct two few s held at =
      let g : ℕ = greatest v.sessions in
      let there : has g v.sessions ≡ true = greatest_there v.sessions (omega (arith, two)) in
      let n = without_length g v.sessions there in
      let some' : 1 ≤ length (without g v.sessions) = omega (arith, n, two) in (
        held.0,
        record { part = held.1.part; number = (λ i. cond (eqb i (length s.views)) (length s.views) (held.1.number i)); session = (λ q. cond (has q (g ∷ [])) (length s.views) (held.1.session q)) },
        both (split_kept M held.0 held.1 s (parts_of held.2) id v at live (without g v.sessions) (g ∷ []) (λ q h. has_without g q v.sessions h)
            (λ q h. ⊎_elim (λ e. ap (λ i. has i v.sessions) e ∙ there) (λ z. absurd (true≢false (sym z))) (has_cons q g [] h))
            (λ q h. by_cases q g ((has q (without g v.sessions) ≡ true) ⊎ (has q (g ∷ []) ≡ true)) (λ e. inr (has_here q g [] e)) (λ ne. inl (without_else g q v.sessions ne h)))
            (λ q a b. ⊎_elim (λ e. without_gone g v.sessions distinct (ap (λ i. has i (without g v.sessions)) (sym e) ∙ a)) (λ z. true≢false (sym z)) (has_cons q g [] b))
            (without_distinct g v.sessions distinct) (refl, tt) (omega (arith, n)) (omega (arith, few, some')) (λ none'. absurd (omega (arith, none', some'))))
            (split_words M held.0 s (words_of held.2) id v at live (without g v.sessions) (g ∷ []) (λ none'. absurd (omega (arith, none', some')))),
      )

  -- A new pass without a hand.
  pub notes : Splits (Rule M) id v v (newcomer v [])
  notes s held at = (
    held.0,
    record { part = held.1.part; number = (λ i. cond (eqb i (length s.views)) (length s.views) (held.1.number i)); session = (λ q. cond (has q []) (length s.views) (held.1.session q)) },
    both (split_kept M held.0 held.1 s (parts_of held.2) id v at live v.sessions [] (λ q h. h) (λ q h. absurd (true≢false (sym h))) (λ q h. inl h) (λ q a b. true≢false (sym b)) ((parts_of held.2).lawful.each id v at live).distinct tt
        (omega arith) ((parts_of held.2).hands.few id v at) ((parts_of held.2).hands.idle id v at))
        (split_words M held.0 s (words_of held.2) id v at live v.sessions [] ((words_of held.2).readers.idle id v at)),
  )
