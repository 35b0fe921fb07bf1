-- An event leaves what holds of the words of blocks, though the bodies may have changed: each word that
-- is to follow is one that the pass knows.
use Rattle.std.proofs.Common.{◌≡◌, ◌≢◌, ℕ, zero, suc, ◌+◌, ◌*◌, ◌^◌, ◌<◌, false, List, [], ◌∷◌, ◌++◌, Option, Some, length, set, refl, sym, ap, subst, ◌∙◌, inl, inr, ⊎_elim, arith}
use Rattle.std.specs.Prelude.{slice_get, slice_index}
use mathlib.Core.Option as maybe
use lib.ListN.{get_elem?}
use Rattle.atomic_table.specs.Table.{State}
use Rattle.hall_rule.specs.EventLog.{after, replay}
use Rattle.hall_rule.specs.HallInvariant.{Claims, Owners, block_word, head_at, latch_word, readers_on, stage, worn_by}
use Rattle.hall_rule.specs.Heads.{IsFrozen, IsHot, MayTurn, TurnsOn, head_in, readers_in}
use Rattle.hall_rule.specs.Meaning.{Laws, Meaning}
use Rattle.hall_rule.specs.Views.{added}
use Rattle.hall_rule.specs.declared.view.Entry.{Entry}
use Rattle.hall_rule.specs.declared.view.View.{View}
use Rattle.hall_rule.proofs.LatchWords.{one_part}
use Rattle.hall_rule.proofs.Lists.{by_cases}
use Rattle.hall_rule.proofs.Logs.{after_is, replay_append}
use Rattle.hall_rule.proofs.Moved.{Homes}
use Rattle.hall_rule.proofs.Words.{Wears, worded}
use Rattle.hall_rule.proofs.Halves.{PartsHold, WordsHold}

-- below a list's length there is an element
pub there_is : {A : Type 0} (xs : List A) (k : ℕ) → k < length xs → (x : A) × (slice_get xs k ≡ Some x)
there_is [] k lt = absurd (omega (arith, lt))
there_is (x ∷ xs) zero lt = (x, refl)
there_is (x ∷ xs) (suc k) lt = there_is xs k (omega (arith, lt))

-- no turn but a thaw's is from a frozen head
never_on : (h i : ℕ) → IsFrozen h → TurnsOn h i → ⊥
never_on h i f = ⊎_elim (λ t. let a = f.0 in let b = t.0 in omega (arith, a, b))
    (⊎_elim (λ t. let a = f.0 in let b = t.0.1 in omega (arith, a, b))
    (⊎_elim (λ t. let a = f.0 in let b = t.0.1 in omega (arith, a, b))
    (λ t. let a = f.0 in let b = t.0.1 in omega (arith, a, b))))

-- A word that is hot and may be turned to a frozen head has that head's stamp: its thaw waits.
thaw_waits : (h i : ℕ) → IsHot h → IsFrozen i → MayTurn h i → i ≡ h + 3 * 2 ^ 30
thaw_waits h i hot frozen = ⊎_elim (λ e. absurd (let a = frozen.0 in omega (arith, a, e, hot)))
    (⊎_elim
    (⊎_elim (λ t. absurd (let a = frozen.0 in let e = t.1 in omega (arith, a, e, hot)))
    (⊎_elim (λ t. absurd (let a = t.0.0 in omega (arith, a, hot)))
    (⊎_elim (λ t. absurd (let a = t.0.0 in omega (arith, a, hot)))
    (λ t. absurd (let a = t.0.0 in omega (arith, a, hot))))))
    (λ t. t.1))

module _ {P E T F : Type 0} (M : Meaning P E T F) (laws : Laws M) (log : List (Entry E)) (o : Owners) (s : State (Option P) (View E)) (words : List ℕ) (homes : Homes M) (id : ℕ) (v : View E) (e : Entry E)
    (kept : PartsHold M log o s) (b : WordsHold M log s) (at : get_elem? s.views id ≡ maybe.some v) (live : v.spent ≡ false)
    (ok : M.sound (replay M log)) (stands : M.stands e.event (replay M log)) (fits : M.fits e.event (replay M log)) (room : length (replay M log) ≡ length M.start)
    (left : (k : ℕ) → stage v k ≢ 2 → slice_get (after M e (replay M log)) k ≡ slice_get (replay M log) k)
    (thawed : (k : ℕ) → M.thaws e.event ≡ Some k → v.drained ≡ suc k)
    (follows : (k : ℕ) (p : P) → (M.thaws e.event ≡ Some k → ⊥) → stage v k ≡ 2 → slice_get (replay M log) k ≡ Some p → worn_by v k ≡ M.head p)
    (blocks : (k : ℕ) → slice_index words (block_word k) ≡ slice_index s.words (block_word k))
    (latches : (k : ℕ) → slice_index words (latch_word k) ≡ slice_index s.words (latch_word k)) where
  abbrev later : List (Entry E)
  later = log ++ e ∷ []

  state : replay M later ≡ after M e (replay M log)
  state = replay_append M M.start log (e ∷ [])

  -- a body that is frozen stays so, unless it is thawed
  frozen_stays : (k : ℕ) (q p : P) → slice_get (replay M log) k ≡ Some q → slice_get (replay M later) k ≡ Some p → IsFrozen (M.head q) → (M.thaws e.event ≡ Some k → ⊥) → M.head p ≡ M.head q
  frozen_stays k q p was is frozen unthawed =
      after_is M (λ (t : List P). (x : P) → slice_get t k ≡ Some x → M.head x ≡ M.head q) e (replay M log)
      (λ x there. ap M.head (one_part (replay M log) k x q there was))
      (λ x there. ⊎_elim
      (λ t. absurd (unthawed t.0))
      (λ t. ⊎_elim (λ same. same) (λ on. absurd (never_on (M.head q) (M.head x) frozen on)) t.1)
      (laws.turns e.event (replay M log) k q x ok stands fits was there))
      p (ap (λ (t : List P). slice_get t k) (sym state) ∙ is)

  held_below : (k : ℕ) → stage v k ≡ 2 → k < length M.start
  held_below k two = ((kept.at_home.each id v at live).holds k (λ z. absurd (omega (arith, z, two)))).0

  was : (k : ℕ) → stage v k ≡ 2 → (q : P) × (slice_get (replay M log) k ≡ Some q)
  was k two = there_is (replay M log) k (let l = held_below k two in omega (arith, l, room))

  head_same : (k : ℕ) → head_at words k ≡ head_at s.words k
  head_same k = ap head_in (blocks k)

  untouched : (k : ℕ) → stage v k ≢ 2 → slice_get (replay M later) k ≡ slice_get (replay M log) k
  untouched k away = ap (λ (t : List P). slice_get t k) state ∙ left k away

  -- A claim stays on an imaged block: one that is thawed has been drained, so that nobody has a claim.
  claims_stay : (j : ℕ) (u : View E) → get_elem? s.views j ≡ maybe.some u → (k : ℕ) → u.claim ≡ suc k → Claims M log s.words u k → Claims M later words u k
  claims_stay j u there k is c = record {
    below = c.below;
    frozen = c.frozen;
    imaged = λ p found. by_cases (stage v k) 2 (M.head p ≡ u.claimed)
        (λ two.
        let q = was k two in
        let same = c.imaged q.0 q.1 in
        frozen_stays k q.0 p q.1 found (subst IsFrozen (sym same) c.frozen) (λ t. (b.drains.each id v at live k (thawed k t)).alone j u there is) ∙ same)
        (λ away. c.imaged p (sym (untouched k away) ∙ found));
    word = ⊎_elim (λ x. inl (head_same k ∙ x)) (λ x. inr (ap (λ h. h + 3 * 2 ^ 30) (head_same k) ∙ x)) c.word;
  }

  -- a word may still be turned to its part
  near_stays : (k : ℕ) (q p : P) → stage v k ≡ 2 → slice_get (replay M log) k ≡ Some q → slice_get (replay M later) k ≡ Some p → MayTurn (worn_by v k) (M.head p)
  near_stays k q p two was' is =
      let near = (b.words.each id v at live).near k q two was' in
      after_is M (λ (t : List P). (x : P) → slice_get t k ≡ Some x → MayTurn (worn_by v k) (M.head x)) e (replay M log)
      (λ x there. subst (λ (y : P). MayTurn (worn_by v k) (M.head y)) (one_part (replay M log) k q x was' there) near)
      (λ x there. ⊎_elim
      (λ t.
      let hot = (b.drains.each id v at live k (thawed k t.0)).hot in
      let waits = thaw_waits (worn_by v k) (M.head q) hot t.1 near in
      let thaw = t.2 in
      inl (omega (arith, waits, thaw)))
      (λ t. ⊎_elim (λ same. subst (MayTurn (worn_by v k)) (sym same) near) (λ on. inr (inl (subst (λ h. TurnsOn h (M.head x)) (sym (follows k q t.0 two was')) on))) t.1)
      (laws.turns e.event (replay M log) k q x ok stands fits was' there))
      p (ap (λ (t : List P). slice_get t k) (sym state) ∙ is)

  owed : Wears M log later s words id v (added v log e)
  owed =
      let old = b.words.each id v at live in
      record {
        live = live;
        parts = λ k none'. untouched k (λ two. absurd (omega (arith, two, none')));
        heads = λ k none'. head_same k;
        latch = λ k below before now. latches k;
        free = λ k below held none'. absurd (let x = ((kept.at_home.each id v at live).holds k (⊎_elim (λ a. a) (λ a. a) held)).1 in let y = latches k in omega (arith, x, y, none'));
        own = record {
          taken = λ k one p is. head_same k ∙ old.taken k one p (sym (untouched k (λ two. absurd (omega (arith, one, two)))) ∙ is);
          worn = λ k two. head_same k ∙ old.worn k two;
          near = λ k p two is. let q = was k two in near_stays k q.0 p two q.1 is;
          frozen = λ k p two frozen is.
              let q = was k two in
              let same = old.frozen k q.0 two frozen q.1 in
              frozen_stays k q.0 p q.1 is (subst IsFrozen (sym same) frozen) (λ t. let hot = (b.drains.each id v at live k (thawed k t)).hot in let f = frozen.0 in absurd (omega (arith, hot, f))) ∙ same;
          room = old.room;
          stages = old.stages;
        };
        claims = λ j u else there k is c. claims_stay j u there k is c;
        claim = λ k is. let c = claims_stay id v at k is (b.claims.each id v at k is) in record { below = c.below; frozen = c.frozen; imaged = c.imaged; word = c.word };
        fresh = λ j u else there alive k is d. d.alone id v at;
        drained = λ k is. absurd (omega (arith, is));
        counted = λ k lt. ap (λ n. readers_in n + readers_on k v) (blocks k);
        one = b.readers.one id v at;
        idle = b.readers.idle id v at;
      }

  -- An event keeps what holds of the words of blocks.
  pub event_words : WordsHold M later record { words = words; homes = homes; views = set s.views id (added v log e) }
  event_words = worded M log later o s words homes id v (added v log e) kept b at live owed
