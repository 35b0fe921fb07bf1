-- The words of blocks keep what holds of them: what each step owes for that.
use Rattle.std.proofs.Common.{◌≡◌, ◌≢◌, ℕ, suc, ◌+◌, ◌*◌, ◌^◌, ◌<◌, ◌≤◌, ◌==◌, false, cond, List, Option, length, set, refl, sym, ap, subst, ◌∙◌, ◌⊎◌, inl, inr, ⊎_elim, arith}
use Rattle.std.specs.Prelude.{slice_get, slice_index}
use mathlib.Core.Option as maybe
use lib.ListN.{get_elem?}
use Rattle.atomic_table.specs.Table.{State}
use Rattle.atomic_table.proofs.Lists.{at_set}
use Rattle.hall_rule.specs.EventLog.{replay}
use Rattle.hall_rule.specs.HallInvariant.{Claims, ClaimsHold, Drains, DrainsHold, Follows, Owners, ReadersCounted, WearsWords, WordsFollow, block_word, hands_of, head_at, latch_word, readers_at, readers_of, readers_on, stage, worn_by}
use Rattle.hall_rule.specs.Heads.{IsFrozen, IsHot, head_in, readers_in}
use Rattle.hall_rule.specs.Meaning.{Meaning}
use Rattle.hall_rule.specs.declared.view.Entry.{Entry}
use Rattle.hall_rule.specs.declared.view.View.{View}
use Rattle.hall_rule.proofs.Lists.{by_cases, each_set, total_set}
use Rattle.hall_rule.proofs.Moved.{Homes}
use Rattle.hall_rule.proofs.Halves.{PartsHold, WordsHold}

module _ {P E T F : Type 0} (M : Meaning P E T F) where
  -- What a step of the seat id owes for the words of blocks: its view becomes w, the words and the
  -- slots change, and the log becomes `later`.
  pub record Wears (log later : List (Entry E)) (s : State (Option P) (View E)) (words : List ℕ) (id : ℕ) (v w : View E) : Type 0 where
    pub live : w.spent ≡ false
    -- a part that is held neither before nor after, its latch and its word's head stay
    pub parts : (k : ℕ) → stage v k ≡ 0 → slice_get (replay M later) k ≡ slice_get (replay M log) k
    pub heads : (k : ℕ) → stage v k ≡ 0 → head_at words k ≡ head_at s.words k
    pub latch : (k : ℕ) → k < length M.start → stage v k ≡ 0 → stage w k ≡ 0 → slice_index words (latch_word k) ≡ slice_index s.words (latch_word k)
    pub free : (k : ℕ) → k < length M.start → (stage v k ≢ 0) ⊎ (stage w k ≢ 0) → slice_index words (latch_word k) ≡ 0 → Follows M later words k
    pub own : WearsWords M later words id w
    -- claims: of others, and its own
    pub claims : (j : ℕ) (u : View E) → j ≢ id → get_elem? s.views j ≡ maybe.some u → (k : ℕ) → u.claim ≡ suc k → Claims M log s.words u k → Claims M later words u k
    pub claim : (k : ℕ) → w.claim ≡ suc k → Claims M later words w k
    -- drained words: of others, and its own
    pub fresh : (j : ℕ) (u : View E) → j ≢ id → get_elem? s.views j ≡ maybe.some u → u.spent ≡ false → (k : ℕ) → u.drained ≡ suc k → Drains s.views u k → w.claim ≢ suc k
    pub drained : (k : ℕ) → w.drained ≡ suc k → (stage w k ≡ 2) × IsHot (worn_by w k) × (w.claim ≢ suc k) × ((j : ℕ) (u : View E) → get_elem? s.views j ≡ maybe.some u → u.claim ≢ suc k)
    -- readers
    pub counted : (k : ℕ) → k < length M.start → readers_at words k + readers_on k v ≡ readers_at s.words k + readers_on k w
    pub one : readers_of w ≤ 1
    pub idle : hands_of w ≡ 0 → readers_of w ≡ 0

  module _ (log later : List (Entry E)) (o : Owners) (s : State (Option P) (View E)) (words : List ℕ) (homes : Homes M) (id : ℕ) (v w : View E)
      (kept : PartsHold M log o s) (b : WordsHold M log s) (at : get_elem? s.views id ≡ maybe.some v) (live : v.spent ≡ false) (q : Wears log later s words id v w) where
    abbrev after : State (Option P) (View E)
    after = record { words = words; homes = homes; views = set s.views id w }

    -- a part that another view holds is not held by this one
    other_held : (j : ℕ) (u : View E) → j ≢ id → get_elem? s.views j ≡ maybe.some u → u.spent ≡ false → (k : ℕ) → stage u k ≢ 0 → stage v k ≡ 0
    other_held j u else there alive k held = by_cases (stage v k) 0 (stage v k ≡ 0) (λ e. e)
        (λ mine. absurd (else (sym ((kept.at_home.each j u there alive).holds k held).2 ∙ ((kept.at_home.each id v at live).holds k mine).2)))

    other_wears : (j : ℕ) (u : View E) → j ≢ id → get_elem? s.views j ≡ maybe.some u → u.spent ≡ false → WearsWords M log s.words j u → WearsWords M later words j u
    other_wears j u else there alive old =
        let away : (k : ℕ) → stage u k ≢ 0 → stage v k ≡ 0 = λ (k : ℕ) held. other_held j u else there alive k held in
        record {
          taken = λ k one p is.
              let none = away k (λ e. absurd (omega (arith, one, e))) in
              q.heads k none ∙ old.taken k one p (sym (q.parts k none) ∙ is);
          worn = λ k two. q.heads k (away k (λ e. absurd (omega (arith, two, e)))) ∙ old.worn k two;
          near = λ k p two is. old.near k p two (sym (q.parts k (away k (λ e. absurd (omega (arith, two, e))))) ∙ is);
          frozen = λ k p two frozen is. old.frozen k p two frozen (sym (q.parts k (away k (λ e. absurd (omega (arith, two, e))))) ∙ is);
          room = old.room;
          stages = old.stages;
        }

    words_on : WordsFollow M later after
    words_on = record {
      free = λ k lt zero'. by_cases (stage v k) 0 (Follows M later words k)
          (λ before. by_cases (stage w k) 0 (Follows M later words k)
          (λ now p is. q.heads k before ∙ b.words.free k lt (sym (q.latch k lt before now) ∙ zero') p (sym (q.parts k before) ∙ is))
          (λ now. q.free k lt (inr now) zero'))
          (λ before. q.free k lt (inl before) zero');
      each = each_set s.views id w (WearsWords M log s.words) (WearsWords M later words) b.words.each (λ j u else there alive old. other_wears j u else there alive old) (λ _. q.own);
    }

    readers_on' : ReadersCounted M after
    readers_on' = record {
      counted = λ k lt.
          let t = total_set (readers_on k) s.views id v w at in
          let n = b.readers.counted k lt in
          let c = q.counted k lt in
          omega (arith, t, n, c);
      one = λ j u there. ⊎_elim (λ t. subst (λ x. readers_of x ≤ 1) t.1 q.one) (λ t. b.readers.one j u t.1) (at_set s.views id j w u there);
      idle = λ j u there. ⊎_elim (λ t. subst (λ x. hands_of x ≡ 0 → readers_of x ≡ 0) t.1 q.idle) (λ t. b.readers.idle j u t.1) (at_set s.views id j w u there);
    }

    claims_on : ClaimsHold M later after
    claims_on = record {
      each = λ j u there. ⊎_elim
          (λ t. subst (λ x. (k : ℕ) → x.claim ≡ suc k → Claims M later words x k) t.1 q.claim)
          (λ t k is. q.claims j u t.0 t.1 k is (b.claims.each j u t.1 k is))
          (at_set s.views id j w u there);
    }

    drains_on : DrainsHold (set s.views id w)
    drains_on = record {
      each = each_set s.views id w (λ j u. (k : ℕ) → u.drained ≡ suc k → Drains s.views u k) (λ j u. (k : ℕ) → u.drained ≡ suc k → Drains (set s.views id w) u k) b.drains.each
          (λ j u else there alive old k is.
          let d = old k is in
          record {
            held = d.held;
            hot = d.hot;
            alone = λ i x found. ⊎_elim (λ t. subst (λ y. y.claim ≢ suc k) t.1 (q.fresh j u else there alive k is d)) (λ t. d.alone i x t.1) (at_set s.views id i w x found);
          })
          (λ _ k is.
          let d = q.drained k is in
          record {
            held = d.0;
            hot = d.1;
            alone = λ i x found. ⊎_elim (λ t. subst (λ y. y.claim ≢ suc k) t.1 d.2) (λ t. d.3 i x t.1) (at_set s.views id i w x found);
          });
    }

    -- A step that keeps what it owes for the words keeps what holds of them.
    pub worded : WordsHold M later after
    worded = record { words = words_on; readers = readers_on'; claims = claims_on; drains = drains_on }

  -- What a step owes that makes no event and leaves the words of blocks, and the view's claims, as they
  -- were.
  pub record Keeps (log : List (Entry E)) (s : State (Option P) (View E)) (words : List ℕ) (id : ℕ) (v w : View E) : Type 0 where
    pub live : w.spent ≡ false
    pub word : (k : ℕ) → slice_index words (block_word k) ≡ slice_index s.words (block_word k)
    pub latch : (k : ℕ) → k < length M.start → stage v k ≡ 0 → stage w k ≡ 0 → slice_index words (latch_word k) ≡ slice_index s.words (latch_word k)
    pub free : (k : ℕ) → k < length M.start → (stage v k ≢ 0) ⊎ (stage w k ≢ 0) → slice_index words (latch_word k) ≡ 0 → Follows M log words k
    pub own : WearsWords M log words id w
    pub claim : w.claim ≡ v.claim
    pub claimed : w.claimed ≡ v.claimed
    pub bump : w.bump ≡ v.bump
    pub sessions : w.sessions ≡ v.sessions
    pub drained : (k : ℕ) → w.drained ≡ suc k → (v.drained ≡ suc k) × (stage w k ≡ stage v k) × (worn_by w k ≡ worn_by v k)

  module _ (log : List (Entry E)) (s : State (Option P) (View E)) (words : List ℕ) (id : ℕ) (v w : View E)
      (b : WordsHold M log s) (at : get_elem? s.views id ≡ maybe.some v) (live : v.spent ≡ false) (q : Keeps log s words id v w) where
    head_same : (k : ℕ) → head_at words k ≡ head_at s.words k
    head_same k = ap head_in (q.word k)

    claims_same : (u : View E) (k : ℕ) → Claims M log s.words u k → Claims M log words u k
    claims_same u k c = record {
      below = c.below;
      frozen = c.frozen;
      imaged = c.imaged;
      word = ⊎_elim (λ e. inl (head_same k ∙ e)) (λ e. inr (ap (λ h. h + 3 * 2 ^ 30) (head_same k) ∙ e)) c.word;
    }

    pub wears_so : Wears log log s words id v w
    wears_so =
        let on : (k : ℕ) → readers_on k w ≡ readers_on k v = λ (k : ℕ). ap (λ c. cond {A = ℕ} (c == suc k) 1 0 + cond {A = ℕ} (w.bump == suc k) 1 0) q.claim ∙ ap (λ c. cond {A = ℕ} (v.claim == suc k) 1 0 + cond {A = ℕ} (c == suc k) 1 0) q.bump in
        let of : readers_of w ≡ readers_of v = ap (λ c. cond {A = ℕ} (c == 0) 0 1 + cond {A = ℕ} (w.bump == 0) 0 1) q.claim ∙ ap (λ c. cond {A = ℕ} (v.claim == 0) 0 1 + cond {A = ℕ} (c == 0) 0 1) q.bump in
        record {
          live = q.live;
          parts = λ k none'. refl;
          heads = λ k none'. head_same k;
          latch = q.latch;
          free = q.free;
          own = q.own;
          claims = λ j u else there k is c. claims_same u k c;
          claim = λ k is.
              let c = claims_same v k (b.claims.each id v at k (sym q.claim ∙ is)) in
              record {
                below = c.below;
                frozen = subst IsFrozen (sym q.claimed) c.frozen;
                imaged = λ p there. c.imaged p there ∙ sym q.claimed;
                word = subst (λ h. (head_at words k ≡ h) ⊎ (head_at words k + 3 * 2 ^ 30 ≡ h)) (sym q.claimed) c.word;
              };
          fresh = λ j u else there alive k is d e. d.alone id v at (sym q.claim ∙ e);
          drained = λ k is.
              let t = q.drained k is in
              let d = b.drains.each id v at live k t.0 in
              (t.1 ∙ d.held, subst IsHot (sym t.2) d.hot, (λ e. d.alone id v at (sym q.claim ∙ e)), d.alone);
          counted = λ k lt. let r = ap readers_in (q.word k) in let n = on k in omega (arith, r, n);
          one = let n = of in let r = b.readers.one id v at in omega (arith, n, r);
          idle = λ none'. of ∙ b.readers.idle id v at (ap length (sym q.sessions) ∙ none');
        }
