-- Taking the parts of an event one after another, each as the parts before it tell.
use Rattle.std.proofs.Common.{◌≡◌, ◌≢◌, ℕ, ◌+◌, ◌<◌, ◌≤◌, ltb, Bool, true, List, [], ◌∷◌, ◌++◌, Option, None, Some, length, drop, set, refl, sym, ap, subst, ◌∙◌, ⊎_elim, true≢false, append-nil, append_assoc, ltb-false, ltb-true, arith}
use Rattle.std.specs.Prelude.{slice_get}
use Rattle.std.proofs.lemmas.Option.{slice_get_within}
use Rattle.atomic_table.specs.Seated.{TableId}
use Rattle.atomic_table.specs.declared.shared.Seat.{Seat}
use Rattle.hall_rule.specs.EventLog.{Spares}
use Rattle.hall_rule.specs.HallInvariant.{hands_of}
use Rattle.hall_rule.specs.Hands.{Holds, IsNext, IsNextHeld}
use Rattle.hall_rule.specs.Meaning.{Meaning}
use Rattle.hall_rule.specs.Views.{Stays, given, with_hand_of}
use Rattle.hall_rule.specs.declared.view.Entry.{Entry}
use Rattle.hall_rule.specs.declared.view.View.{View}
use Rattle.hall_rule.proofs.Lists.{bool_cases, by_cases, get_set_else, get_set_here}
use Rattle.hall_rule.proofs.Logs.{begins_more, rest_is, spares_append}
use Rattle.hall_rule.proofs.Numbers.{has_append, has_cons}
use Rattle.hall_steps.specs.Hall.{EachHand, IsPass, LooksOn, SeesMore, TookParts, first_of}

-- What follows where a number is below another, and where it is not, follows anyway.
pub below_or : (n m : ℕ) (Q : Type 0) → (n < m → Q) → (m ≤ n → Q) → Q
below_or n m Q lt ge = bool_cases (ltb n m) Q (λ e. lt (ltb-true n m e)) (λ e. ge (ltb-false n m e))

module _ {P : Type 0} where
  -- What a hand holds it holds, too, with a part put in a place of it.
  still_held : (hand : List (Option P)) (part k : ℕ) (p : P) → part < length hand → Holds hand k → Holds (set hand part (Some p)) k
  still_held hand part k p lt held = by_cases k part (Holds (set hand part (Some p)) k)
      (λ e. subst (Holds (set hand part (Some p))) (sym e) (p, get_set_here hand part (Some p) lt))
      (λ ne. (held.0, get_set_else hand part k (Some p) ne ∙ held.1))

module _ {P : Type 0} (touches : List (Option P) → ℕ → Bool) where
  -- What is held when the parts below `from` were gone through.
  pub record Walked (from : ℕ) (hand : List (Option P)) : Type 0 where
    pub below : (k : ℕ) → Holds hand k → k < from
    pub only : (k : ℕ) → Holds hand k → touches hand k ≡ true
    pub covered : (k : ℕ) → k < from → touches hand k ≡ true → Holds hand k

  -- before any part was gone through nothing is held
  pub walk_starts : (hand : List (Option P)) → ((k : ℕ) → ¬ Holds hand k) → Walked 0 hand
  walk_starts hand empty = record {
    below = λ k h. absurd (empty k h);
    only = λ k h. absurd (empty k h);
    covered = λ k lt _. absurd (omega (arith, lt));
  }

  module _ (ascends : (h i : List (Option P)) (k : ℕ) → ((j : ℕ) → j < k → slice_get h j ≡ slice_get i j) → touches h k ≡ touches i k) where
    -- the next part that the event touches is taken
    pub walk_on : (from part : ℕ) (hand hand' : List (Option P)) (p : P) → Walked from hand → IsNext (touches hand) from (length hand) (Some part) → hand' ≡ set hand part (Some p) → Walked (part + 1) hand'
    walk_on from part hand hand' p w next is =
        let le = next.0 in
        let lt = next.1 in
        let same : (k : ℕ) → k ≤ part → touches hand' k ≡ touches hand k = λ (k : ℕ) up. ascends hand' hand k (λ j less. ap (λ x. slice_get x j) is ∙ get_set_else hand part j (Some p) (λ e. absurd (omega (arith, e, less, up)))) in
        let back : (k : ℕ) → k ≢ part → Holds hand' k → Holds hand k = λ (k : ℕ) ne held. (held.0, sym (get_set_else hand part k (Some p) ne) ∙ (ap (λ x. slice_get x k) (sym is) ∙ held.1)) in
        record {
          below = λ k held. by_cases k part (k < part + 1) (λ e. omega (arith, e)) (λ ne. let b = w.below k (back k ne held) in omega (arith, b, le));
          only = λ k held. by_cases k part (touches hand' k ≡ true)
              (λ e. ap (touches hand') e ∙ (same part (omega arith) ∙ next.2))
              (λ ne. let b = w.below k (back k ne held) in same k (omega (arith, b, le)) ∙ w.only k (back k ne held));
          covered = λ k up touched. subst (λ x. Holds x k) (sym is) (by_cases k part (Holds (set hand part (Some p)) k)
              (λ e. subst (Holds (set hand part (Some p))) (sym e) (p, get_set_here hand part (Some p) lt))
              (λ ne.
              let low : k ≤ part = omega (arith, up) in
              let was : touches hand k ≡ true = sym (same k low) ∙ touched in
              still_held hand part k p lt (below_or k from (Holds hand k) (λ b. w.covered k b was) (λ a. absurd (true≢false (sym was ∙ next.3 k a (omega (arith, up, ne))))))));
        }

module _ {P E : Type 0} where
  -- at first nothing was taken since
  pub took_none : (hand : List (Option P)) (v : View E) → TookParts hand v v
  took_none hand v = record { parts = []; taken = sym (append-nil v.taken); held = λ k h. absurd (true≢false (sym h)) }

  -- one part more was taken
  pub took_more : (hand hand' : List (Option P)) (v w x : View E) (part : ℕ) (p : P) → part < length hand → hand' ≡ set hand part (Some p) → TookParts hand v w → x.taken ≡ w.taken ++ part ∷ [] → TookParts hand' v x
  took_more hand hand' v w x part p lt is took more = record {
    parts = took.parts ++ part ∷ [];
    taken = more ∙ (ap (λ l. l ++ part ∷ []) took.taken ∙ append_assoc v.taken took.parts (part ∷ []));
    held = λ k h. subst (λ y. Holds y k) (sym is) (⊎_elim
        (λ a. still_held hand part k p lt (took.held k a))
        (λ b. ⊎_elim (λ e. subst (Holds (set hand part (Some p))) (sym e) (p, get_set_here hand part (Some p) lt)) (λ z. absurd (true≢false (sym z))) (has_cons k part [] b))
        (has_append k took.parts (part ∷ []) h));
  }

module _ {P E T F : Type 0} (M : Meaning P E T F) where
  -- What was known of a log stays known of it.
  pub stays_put : (sessions : List ℕ) (log : List (Entry E)) → Stays M sessions log log
  stays_put sessions log =
      let e : log ≡ log ++ [] = sym (append-nil log) in
      let none' : drop (length log) log ≡ [] = rest_is log [] log e in
      record {
        goes_on = e ∙ ap (λ l. log ++ l) (sym none');
        spared = λ q h. subst (Spares M q) (sym none') tt;
        transactions = λ q h. refl;
        facts = λ f h. h;
      }

  -- What stays to a later log, and from there on to a third, stays to that.
  pub stays_on : (sessions : List ℕ) (xs ys zs : List (Entry E)) → Stays M sessions xs ys → Stays M sessions ys zs → Stays M sessions xs zs
  stays_on sessions xs ys zs a b =
      let rest : List (Entry E) = drop (length ys) zs in
      let on : zs ≡ ys ++ rest = b.goes_on in
      let split' : drop (length xs) zs ≡ drop (length xs) ys ++ rest = rest_is xs (drop (length xs) ys ++ rest) zs (on ∙ (ap (λ l. l ++ rest) a.goes_on ∙ append_assoc xs (drop (length xs) ys) rest)) in
      record {
        goes_on = subst (λ l. l ≡ xs ++ drop (length xs) l) (sym on) (begins_more xs ys rest a.goes_on);
        spared = λ q h. subst (Spares M q) (sym split') (spares_append M q (drop (length xs) ys) rest (a.spared q h) (b.spared q h));
        transactions = λ q h. b.transactions q h ∙ a.transactions q h;
        facts = λ f h. b.facts f (a.facts f h);
      }

  -- a view that is as it was sees as much
  pub sees_same : (v : View E) → SeesMore M v v
  sees_same v = record { joined = refl; sessions = refl; mine = refl; sole = refl; reads = (refl, refl); stays = stays_put v.sessions v.log }

  -- one that looks on from a view that sees more sees more too
  pub sees_on : (id : ℕ) (v w x : View E) → SeesMore M v w → LooksOn M id w x → SeesMore M v x
  sees_on id v w x a b =
      let l = b.learned in
      let step : Stays M w.sessions w.log x.log = record { goes_on = l.goes_on; spared = l.spared; transactions = l.transactions; facts = l.facts } in
      record {
        joined = b.joined ∙ a.joined;
        sessions = b.sessions ∙ a.sessions;
        mine = b.mine ∙ a.mine;
        sole = b.sole ∙ a.sole;
        reads = (b.reads.0 ∙ a.reads.0, b.reads.1 ∙ a.reads.1);
        stays = stays_on v.sessions v.log w.log x.log a.stays (subst (λ qs. Stays M qs w.log x.log) a.sessions step);
      }

  -- Where each hand has so many places, the first of some hands has.
  first_length : (n : ℕ) (hands : List (List (Option P))) → 0 < length hands → EachHand (λ h. length h ≡ n) hands → length (first_of hands) ≡ n
  first_length n [] lt a = absurd (omega (arith, lt))
  first_length n (h ∷ hs) lt a = a.0

  -- The first hand of a pass that has one has a place for each part.
  pub first_room : (z : TableId) (s : Seat (Option P) (View E)) (hands : List (List (Option P))) → IsPass M z s hands → 0 < hands_of s.me.0 → length (first_of hands) ≡ length M.start
  first_room z s hands pass lt = let c = pass.count in first_length (length M.start) hands (omega (arith, c, lt)) pass.places

module _ {E : Type 0} where
  -- a part that is given back leaves a view as it was, but for its hand
  pub given_on : (v w x : View E) (k : ℕ) → w ≡ with_hand_of w v → x ≡ given w k → x ≡ with_hand_of x v
  given_on v w x k same is = subst (λ y. y ≡ with_hand_of y v) (sym is) (ap (λ y. given y k) same)

module _ {P : Type 0} where
  -- and it is the next that leaves the hand
  pub gone_on : (from part : ℕ) (hand hand' : List (Option P)) → ((k : ℕ) → k < from → ¬ Holds hand k) → IsNextHeld hand from (Some part) → hand' ≡ set hand part None → (k : ℕ) → k < part + 1 → ¬ Holds hand' k
  gone_on from part hand hand' gone next is k lt held = by_cases k part ⊥
      (λ e.
      let held' : Holds (set hand part None) part = subst (λ x. Holds x part) is (subst (Holds hand') e held) in
      let there = next.1 in
      let f : Some (Some held'.0) ≡ Some None = sym held'.1 ∙ get_set_here hand part None (slice_get_within hand part (Some there.0) there.1) in
      absurd (cc))
      (λ ne.
      let was : Holds hand k = (held.0, sym (get_set_else hand part k None ne) ∙ (ap (λ x. slice_get x k) (sym is) ∙ held.1)) in
      below_or k from ⊥ (λ b. gone k b was) (λ a. next.2 k a (omega (arith, lt, ne)) was))

  -- where no held part comes next the hand is empty
  pub none_left : (from : ℕ) (hand : List (Option P)) → ((k : ℕ) → k < from → ¬ Holds hand k) → IsNextHeld hand from None → (k : ℕ) → ¬ Holds hand k
  none_left from hand gone none' k held = below_or k from ⊥ (λ b. gone k b held) (λ a. none' k a held)
