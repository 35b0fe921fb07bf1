-- A hall that begins, a pass that is split and one that is joined leave what holds of the words of
-- blocks.
use Rattle.std.proofs.Common.{◌≡◌, ◌≢◌, ℕ, zero, suc, ◌+◌, ◌*◌, ◌^◌, ◌<◌, ◌≤◌, ◌==◌, true, false, cond, List, [], ◌∷◌, ◌++◌, Option, Some, None, length, set, refl, sym, ap, subst, ◌∙◌, ◌⊎◌, inl, inr, ⊎_elim, length-set, length-append, ne_eqb, arith}
use Rattle.std.specs.Prelude.{replicate, slice_get, slice_index}
use mathlib.Core.Option as maybe
use lib.ListN.{get_elem?}
use Rattle.atomic_table.specs.Table.{State, opening}
use Rattle.atomic_table.proofs.Lists.{at_set, set_else}
use Rattle.hall_rule.specs.HallInvariant.{Claims, Drains, WearsWords, block_word, hands_of, readers_of, readers_on, stage}
use Rattle.hall_rule.specs.Heads.{head_in, readers_in}
use Rattle.hall_rule.specs.Hands.{all_in}
use Rattle.hall_rule.specs.Meaning.{Meaning}
use Rattle.hall_rule.specs.Opening.{first_view}
use Rattle.hall_rule.specs.Slots.{spread}
use Rattle.hall_rule.specs.Views.{joined_by, newcomer, spent_view}
use Rattle.hall_rule.specs.declared.view.Entry.{Entry}
use Rattle.hall_rule.specs.declared.view.View.{View}
use Rattle.hall_rule.proofs.Lists.{total_set, total_snoc}
use Rattle.hall_rule.proofs.Opens.{zeros}
use Rattle.hall_rule.proofs.Splits.{at_snoc_index}
use Rattle.hall_rule.proofs.Halves.{WordsHold}

-- none is on a part
pub none_on : (k : ℕ) → cond {A = ℕ} (0 == suc k) 1 0 ≡ 0
none_on k = ap (λ b. cond {A = ℕ} b 1 0) (ne_eqb 0 (suc k) (λ e. absurd (omega (arith, e))))

-- what is not 0 counts as one
pub counts_one : (c : ℕ) → c ≢ 0 → cond {A = ℕ} (c == 0) 0 1 ≡ 1
counts_one c ne = ap (λ b. cond {A = ℕ} b 0 1) (ne_eqb c 0 ne)

-- at the beginning all words are hot, without a stamp and a reader
module _ {P E T F : Type 0} (M : Meaning P E T F) (cold : (k : ℕ) (p : P) → slice_get M.start k ≡ Some p → M.head p ≡ 0) (words : List ℕ) (zero' : (k : ℕ) → slice_index words k ≡ 0) where
  only : (x y : View E) (j : ℕ) → get_elem? (x ∷ []) j ≡ maybe.some y → x ≡ y
  only x y zero e = maybe.some-injective x y e
  only x y (suc j) e = absurd (maybe.some-ne-none y (sym e))

  abbrev first : View E
  first = first_view M.start M.passes

  none_held : (k : ℕ) → stage first k ≡ 0
  none_held k = zeros (length M.start) k

  pub opens_words : WordsHold M [] (opening words (spread (all_in M.start)) (first_view M.start M.passes))
  opens_words = record {
    words = record {
      free = λ k lt free p is. ap head_in (zero' (block_word k)) ∙ sym (cold k p is);
      each = λ j v there alive. subst (WearsWords M [] words j) (only first v j there) (record {
        taken = λ k one. absurd (let z = none_held k in omega (arith, z, one));
        worn = λ k two. absurd (let z = none_held k in omega (arith, z, two));
        near = λ k p two. absurd (let z = none_held k in omega (arith, z, two));
        frozen = λ k p two. absurd (let z = none_held k in omega (arith, z, two));
        room = refl;
        stages = λ k. let z = none_held k in omega (arith, z);
      });
    };
    readers = record {
      counted = λ k lt. ap readers_in (zero' (block_word k)) ∙ (let n = none_on k in let e : 0 ≡ cond {A = ℕ} (0 == suc k) 1 0 + cond {A = ℕ} (0 == suc k) 1 0 + 0 = omega (arith, n) in e);
      one = λ j v there. subst (λ x. readers_of x ≤ 1) (only first v j there) (omega arith);
      idle = λ j v there. subst (λ x. hands_of x ≡ 0 → readers_of x ≡ 0) (only first v j there) (λ _. refl);
    };
    claims = record {
      each = λ j v there. subst (λ x. (k : ℕ) → x.claim ≡ suc k → Claims M [] words x k) (only first v j there) (λ k is. absurd (omega (arith, is)));
    };
    drains = record {
      each = λ j v there alive. subst (λ x. (k : ℕ) → x.drained ≡ suc k → Drains (first ∷ []) x k) (only first v j there) (λ k is. absurd (omega (arith, is)));
    };
  }

module _ {P E T F : Type 0} (M : Meaning P E T F) (log : List (Entry E)) (s : State (Option P) (View E)) (b : WordsHold M log s) (id : ℕ) (v : View E) (at : get_elem? s.views id ≡ maybe.some v) (live : v.spent ≡ false) where
  -- a pass is split, or a note of it is made
  module _ (ls rs : List ℕ) (idle : length ls ≡ 0 → readers_of v ≡ 0) where
    abbrev left : View E
    left = record v { sessions = ls }

    abbrev right : View E
    right = newcomer v rs

    abbrev views : List (View E)
    views = set s.views id left ++ right ∷ []

    right_held : (k : ℕ) → stage right k ≡ 0
    right_held k = zeros (length v.stages) k

    on_all : (B : ℕ → View E → Type 0) → ((j : ℕ) (u : View E) → get_elem? s.views j ≡ maybe.some u → B j u) → B id left → ((j : ℕ) → B j right) → (j : ℕ) (u : View E) → get_elem? views j ≡ maybe.some u → B j u
    on_all B others here there j u found = ⊎_elim
        (λ t. ⊎_elim (λ a. subst (λ i. B i u) (sym a.0) (subst (B id) a.1 here)) (λ a. others j u a.1) (at_set s.views id j left u t))
        (λ t. subst (B j) t.1 (there j))
        (at_snoc_index (set s.views id left) right u j found)

    no_claim : (k : ℕ) → ((j : ℕ) (u : View E) → get_elem? s.views j ≡ maybe.some u → u.claim ≢ suc k) → (j : ℕ) (u : View E) → get_elem? views j ≡ maybe.some u → u.claim ≢ suc k
    no_claim k none' = on_all (λ j u. u.claim ≢ suc k) none' (none' id v at) (λ j e. absurd (omega (arith, e)))

    drains_more : (x : View E) (k : ℕ) → Drains s.views x k → Drains views x k
    drains_more x k d = record { held = d.held; hot = d.hot; alone = no_claim k d.alone }

    pub split_words : WordsHold M log record { words = s.words; homes = s.homes; views = views }
    split_words = record {
      words = record {
        free = b.words.free;
        each = on_all (λ j u. u.spent ≡ false → WearsWords M log s.words j u) b.words.each
            (λ alive. let w = b.words.each id v at live in record { taken = w.taken; worn = w.worn; near = w.near; frozen = w.frozen; room = w.room; stages = w.stages })
            (λ j alive. record {
              taken = λ k one. absurd (let z = right_held k in omega (arith, z, one));
              worn = λ k two. absurd (let z = right_held k in omega (arith, z, two));
              near = λ k p two. absurd (let z = right_held k in omega (arith, z, two));
              frozen = λ k p two. absurd (let z = right_held k in omega (arith, z, two));
              room = ap (λ n. length {A = ℕ} (replicate n 0)) (b.words.each id v at live).room;
              stages = λ k. let z = right_held k in omega (arith, z);
            });
      };
      readers = record {
        counted = λ k lt.
            let n = b.readers.counted k lt in
            let t = total_set (readers_on k) s.views id v left at in
            let u = total_snoc (readers_on k) (set s.views id left) right in
            let z = none_on k in
            omega (arith, n, t, u, z);
        one = on_all (λ j u. readers_of u ≤ 1) b.readers.one (b.readers.one id v at) (λ j. omega arith);
        idle = on_all (λ j u. hands_of u ≡ 0 → readers_of u ≡ 0) b.readers.idle idle (λ j none'. refl);
      };
      claims = record {
        each = on_all (λ j u. (k : ℕ) → u.claim ≡ suc k → Claims M log s.words u k) b.claims.each
            (λ k is. let c = b.claims.each id v at k is in record { below = c.below; frozen = c.frozen; imaged = c.imaged; word = c.word })
            (λ j k is. absurd (omega (arith, is)));
      };
      drains = record {
        each = on_all (λ j u. u.spent ≡ false → (k : ℕ) → u.drained ≡ suc k → Drains views u k) (λ j u there alive k is. drains_more u k (b.drains.each j u there alive k is))
            (λ alive k is. let d = drains_more v k (b.drains.each id v at live k is) in record { held = d.held; hot = d.hot; alone = d.alone })
            (λ j alive k is. absurd (omega (arith, is)));
      };
    }

  -- a pass without a claim is joined into another
  module _ (other : ℕ) (u : View E) (else : other ≢ id) (there : get_elem? s.views other ≡ maybe.some u) (no_claim_left : readers_of u ≡ 0) where
    abbrev both : View E
    both = joined_by id other v u

    abbrev joined_views : List (View E)
    joined_views = set (set s.views id both) other spent_view

    there' : get_elem? (set s.views id both) other ≡ maybe.some u
    there' = set_else s.views id other both else ∙ there

    on_joined : (B : ℕ → View E → Type 0) → ((j : ℕ) (x : View E) → get_elem? s.views j ≡ maybe.some x → B j x) → B id both → B other spent_view → (j : ℕ) (x : View E) → get_elem? joined_views j ≡ maybe.some x → B j x
    on_joined B others here gone j x found = ⊎_elim
        (λ t. subst (λ i. B i x) (sym t.0) (subst (B other) t.1 gone))
        (λ t. ⊎_elim (λ a. subst (λ i. B i x) (sym a.0) (subst (B id) a.1 here)) (λ a. others j x a.1) (at_set s.views id j both x t.1))
        (at_set (set s.views id both) other j spent_view x found)

    none_claims : (k : ℕ) → ((j : ℕ) (x : View E) → get_elem? s.views j ≡ maybe.some x → x.claim ≢ suc k) → (j : ℕ) (x : View E) → get_elem? joined_views j ≡ maybe.some x → x.claim ≢ suc k
    none_claims k none' = on_joined (λ j x. x.claim ≢ suc k) none' (none' id v at) (λ e. absurd (omega (arith, e)))

    on_none : (c d k : ℕ) → cond {A = ℕ} (c == 0) 0 1 + cond {A = ℕ} (d == 0) 0 1 ≡ 0 → cond {A = ℕ} (c == suc k) 1 0 + cond {A = ℕ} (d == suc k) 1 0 ≡ 0
    on_none zero zero k e = let n = none_on k in omega (arith, n)
    on_none zero (suc d) k e = let n = counts_one (suc d) (λ z. absurd (omega (arith, z))) in absurd (omega (arith, e, n))
    on_none (suc c) d k e = let n = counts_one (suc c) (λ z. absurd (omega (arith, z))) in absurd (omega (arith, e, n))

    pub join_words : WordsHold M log record { words = s.words; homes = s.homes; views = joined_views }
    join_words = record {
      words = record {
        free = b.words.free;
        each = on_joined (λ j x. x.spent ≡ false → WearsWords M log s.words j x) b.words.each
            (λ alive. let w = b.words.each id v at live in record { taken = w.taken; worn = w.worn; near = w.near; frozen = w.frozen; room = w.room; stages = w.stages })
            (λ alive. absurd (Rattle.std.proofs.Common.true≢false alive));
      };
      readers = record {
        counted = λ k lt.
            let n = b.readers.counted k lt in
            let t = total_set (readers_on k) s.views id v both at in
            let x = total_set (readers_on k) (set s.views id both) other u spent_view there' in
            let none' = on_none u.claim u.bump k no_claim_left in
            let z = none_on k in
            omega (arith, n, t, x, none', z);
        one = on_joined (λ j x. readers_of x ≤ 1) b.readers.one (b.readers.one id v at) (omega arith);
        idle = on_joined (λ j x. hands_of x ≡ 0 → readers_of x ≡ 0) b.readers.idle
            (λ none'. b.readers.idle id v at (let n : length (v.sessions ++ u.sessions) ≡ length v.sessions + length u.sessions = length-append v.sessions u.sessions in omega (arith, n, none')))
            (λ _. refl);
      };
      claims = record {
        each = on_joined (λ j x. (k : ℕ) → x.claim ≡ suc k → Claims M log s.words x k) b.claims.each
            (λ k is. let c = b.claims.each id v at k is in record { below = c.below; frozen = c.frozen; imaged = c.imaged; word = c.word })
            (λ k is. absurd (omega (arith, is)));
      };
      drains = record {
        each = on_joined (λ j x. x.spent ≡ false → (k : ℕ) → x.drained ≡ suc k → Drains joined_views x k)
            (λ j x found alive k is. let d = b.drains.each j x found alive k is in record { held = d.held; hot = d.hot; alone = none_claims k d.alone })
            (λ alive k is. let d = b.drains.each id v at live k is in record { held = d.held; hot = d.hot; alone = none_claims k d.alone })
            (λ alive. absurd (Rattle.std.proofs.Common.true≢false alive));
      };
    }
