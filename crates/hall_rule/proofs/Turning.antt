-- The steps on the words of blocks keep the rule: who enters and leaves, and who turns a word in whose
-- hand the part lies.
use Rattle.std.proofs.Common.{◌≡◌, ◌≢◌, ℕ, zero, suc, ◌+◌, ◌-◌, ◌*◌, ◌/◌, ◌%◌, ◌^◌, ◌<◌, ◌≤◌, ◌==◌, Bool, leb, true, false, cond, List, [], ◌∷◌, ◌++◌, Option, Some, length, set, get_or-set_same, get_or-set_other, refl, sym, ap, subst, ◌∙◌, ◌⊎◌, inl, inr, ⊎_elim, length-set, ne_eqb, eq-eqb, arith}
use Rattle.std.specs.Prelude.{bit_and, slice_get, slice_index}
use Rattle.std.proofs.lemmas.Bool.{leb-true}
use Rattle.std.proofs.lemmas.Nat.{and_mask}
use mathlib.Core.Option as maybe
use lib.ListN.{get_elem?}
use Rattle.atomic_table.specs.Table.{Allows, State}
use Rattle.atomic_table.specs.Table.Act.{keeps}
use Rattle.hall_rule.specs.EventLog.{replay}
use Rattle.hall_rule.specs.HallInvariant.{Claims, Drains, HallInvariant, Owners, WearsWords, block_word, hands_of, head_at, latch_word, readers_at, readers_of, readers_on, stage, total_of, worn_by}
use Rattle.hall_rule.specs.Heads.{IsFrozen, IsHot, MayTurn, head_in, readers_in}
use Rattle.hall_rule.specs.Meaning.{Laws, Meaning}
use Rattle.hall_rule.specs.Rule.{Rule}
use Rattle.hall_rule.specs.Views.{Enters, bumped, claimed, emptied, entered, left, turned}
use Rattle.hall_rule.specs.declared.view.Entry.{Entry}
use Rattle.hall_rule.specs.declared.view.Found.{Found}
use Rattle.hall_rule.specs.declared.view.View.{View}
use Rattle.hall_rule.proofs.LatchWords.{one_part}
use Rattle.hall_rule.proofs.Latches.{learns, unset}
use Rattle.hall_rule.proofs.Lists.{bool_cases, by_cases, total_at}
use Rattle.hall_rule.proofs.PassWords.{counts_one, none_on}
use Rattle.hall_rule.proofs.Quiet.{stirred}
use Rattle.hall_rule.proofs.Words.{worded}
use Rattle.hall_rule.proofs.Halves.{PartsHold, WordsHold, both, parts_of, words_of}

-- ---- numbers

-- a truth value counts as one at most
at_most : (b : Bool) → cond {A = ℕ} b 1 0 ≤ 1
at_most true = omega arith
at_most false = omega arith

-- what is on a part is there
on_few : (c k : ℕ) → cond {A = ℕ} (c == suc k) 1 0 ≤ cond {A = ℕ} (c == 0) 0 1
on_few zero k = let n = none_on k in omega (arith, n)
on_few (suc c) k = let n = counts_one (suc c) (λ z. absurd (omega (arith, z))) in let m = at_most (suc c == suc k) in omega (arith, n, m)

on_same : (k : ℕ) → cond {A = ℕ} (suc k == suc k) 1 0 ≡ 1
on_same k = ap (λ b. cond {A = ℕ} b 1 0) (eq-eqb (suc k) (suc k) refl)

on_else : (i k : ℕ) → k ≢ i → cond {A = ℕ} (suc i == suc k) 1 0 ≡ 0
on_else i k ne = ap (λ b. cond {A = ℕ} b 1 0) (ne_eqb (suc i) (suc k) (λ e. ne (omega (arith, e))))

-- a reader more or less leaves the head
plus_head : (n : ℕ) → n < 2 ^ 64 → n % 2 ^ 32 + 1 < 2 ^ 32 → (n + 1) % 2 ^ 64 / 2 ^ 32 ≡ n / 2 ^ 32
plus_head n small room = omega (arith, small, room)

plus_readers : (n : ℕ) → n < 2 ^ 64 → n % 2 ^ 32 + 1 < 2 ^ 32 → (n + 1) % 2 ^ 64 % 2 ^ 32 ≡ n % 2 ^ 32 + 1
plus_readers n small room = omega (arith, small, room)

minus_head : (n : ℕ) → n < 2 ^ 64 → 1 ≤ n % 2 ^ 32 → (n + (2 ^ 64 - 1)) % 2 ^ 64 / 2 ^ 32 ≡ n / 2 ^ 32
minus_head n small some' = omega (arith, small, some')

minus_readers : (n : ℕ) → n < 2 ^ 64 → 1 ≤ n % 2 ^ 32 → (n + (2 ^ 64 - 1)) % 2 ^ 64 % 2 ^ 32 + 1 ≡ n % 2 ^ 32
minus_readers n small some' = omega (arith, small, some')

-- setting the word of a block leaves latches and the words of other blocks
latch_stays : (words : List ℕ) (i n k : ℕ) → slice_index (set words (block_word i) n) (latch_word k) ≡ slice_index words (latch_word k)
latch_stays words i n k = get_or-set_other words (block_word i) (latch_word k) n 0 (λ e. absurd (omega (arith, e)))

others_stay : (words : List ℕ) (i n k : ℕ) → k ≢ i → slice_index (set words (block_word i) n) (block_word k) ≡ slice_index words (block_word k)
others_stay words i n k ne = get_or-set_other words (block_word i) (block_word k) n 0 (λ e. ne (omega (arith, e)))

module _ {E : Type 0} where
  -- a number of each view that is no more than another adds up to no more
  total_less : (f g : View E → ℕ) (views : List (View E)) → ((j : ℕ) (u : View E) → get_elem? views j ≡ maybe.some u → f u ≤ g u) → total_of f views ≤ total_of g views
  total_less f g [] each = omega arith
  total_less f g (u ∷ us) each = let a = each 0 u refl in let b = total_less f g us (λ j x at. each (suc j) x at) in omega (arith, a, b)

  pub readers_few : (k : ℕ) (u : View E) → readers_on k u ≤ readers_of u
  readers_few k u = let a = on_few u.claim k in let b = on_few u.bump k in omega (arith, a, b)

module _ {P E T F : Type 0} (M : Meaning P E T F) (laws : Laws M) (slots id : ℕ) (v : View E) (i : ℕ) (live : v.spent ≡ false) (lt : i < length M.start) where
  -- What a step on a word of a block may make of a view.
  abbrev changed : List ℕ → ℕ → ℕ → ℕ → ℕ → List Found → View E
  changed worn drained claim claimed bump found = record v { worn = worn; drained = drained; claim = claim; claimed = claimed; bump = bump; found = found }

  module _ (log : List (Entry E)) (o : Owners) (s : State (Option P) (View E)) (kept : PartsHold M log o s) (b : WordsHold M log s) (at : get_elem? s.views id ≡ maybe.some v) (n : ℕ) where
    abbrev words : List ℕ
    words = set s.words (block_word i) n

    wide : block_word i < length s.words
    wide = let w = kept.at_home.wide in omega (arith, w, lt)

    -- the hall's other parts are left
    block_kept : (worn : List ℕ) (drained claim claimed bump : ℕ) (found : List Found) → PartsHold M log o record { words = words; homes = s.homes; views = set s.views id (changed worn drained claim claimed bump found) }
    block_kept worn drained claim claimed bump found =
        let w : View E = changed worn drained claim claimed bump found in
        let old = kept.at_home.each id v at live in
        stirred M laws log o o.part s words s.homes id v w kept at live (record {
          lasts = refl;
          before = inl refl;
          live = live;
          seen = inl refl;
          counted = get_or-set_other s.words (block_word i) 0 n 0 (λ e. absurd (omega (arith, e)));
          wide = length-set s.words (block_word i) n;
          deep = refl;
          idle = kept.hands.idle id v at;
          same = λ k below was is. (latch_stays s.words i n k, refl, refl);
          fresh = λ k was is. absurd (is was);
          free = λ k below held none'. absurd (let x = (old.holds k (⊎_elim (λ a. a) (λ a. a) held)).1 in let y = latch_stays s.words i n k in omega (arith, x, y, none'));
          latched = λ k below held some'. let h : stage v k ≢ 0 = ⊎_elim (λ a. a) (λ a. a) held in ((old.holds k h).2, h);
          parts = record {
            holds = λ k held. let x = old.holds k held in (x.0, latch_stays s.words i n k ∙ x.1, x.2);
            taken = old.taken;
            loaded = old.loaded;
            kept = old.kept;
            in_hand = old.in_hand;
            out = old.out;
            ever = old.ever;
          };
        })

    here : slice_index words (block_word i) ≡ n
    here = get_or-set_same s.words (block_word i) n 0 wide

    -- its readers are few
    readers_bounded : readers_at s.words i ≤ 128
    readers_bounded =
        let c = b.readers.counted i lt in
        let l = total_less (readers_on i) hands_of s.views (λ j u there.
        let f = readers_few i u in
        let o' = b.readers.one j u there in
        by_cases (hands_of u) 0 (readers_on i u ≤ hands_of u)
        (λ z. let q = b.readers.idle j u there z in omega (arith, f, q, z))
        (λ ne. omega (arith, f, o', ne))) in
        let h = kept.hands.handed in
        let m = kept.hands.limit in
        omega (arith, c, l, h, m)

    old_wears : WearsWords M log s.words id v
    old_wears = b.words.each id v at live

    held_latched : (k : ℕ) → stage v k ≢ 0 → slice_index s.words (latch_word k) ≡ 1
    held_latched k held = ((kept.at_home.each id v at live).holds k held).1

    -- ---- who enters and leaves

    module _ (same : head_in n ≡ head_at s.words i) where
      head_same : (k : ℕ) → head_at words k ≡ head_at s.words k
      head_same k = by_cases k i (head_at words k ≡ head_at s.words k)
          (λ e. subst (λ (x : ℕ). head_at words x ≡ head_at s.words x) (sym e) (ap head_in here ∙ same))
          (λ ne. ap head_in (others_stay s.words i n k ne))

      claims_same : (u : View E) (k : ℕ) → Claims M log s.words u k → Claims M log words u k
      claims_same u k c = record {
        below = c.below;
        frozen = c.frozen;
        imaged = c.imaged;
        word = ⊎_elim (λ e. inl (head_same k ∙ e)) (λ e. inr (ap (λ h. h + 3 * 2 ^ 30) (head_same k) ∙ e)) c.word;
      }

      -- the view's claim and bump change
      module _ (claim claimed bump : ℕ) (found : List Found) where
        abbrev w : View E
        w = changed v.worn v.drained claim claimed bump found

        reads_on : ((k : ℕ) → claim ≡ suc k → Claims M log words w k)
            → ((j : ℕ) (u : View E) → get_elem? s.views j ≡ maybe.some u → u.spent ≡ false → (k : ℕ) → u.drained ≡ suc k → Drains s.views u k → claim ≢ suc k)
            → ((k : ℕ) → k < length M.start → readers_at words k + readers_on k v ≡ readers_at s.words k + readers_on k w)
            → readers_of w ≤ 1 → (hands_of v ≡ 0 → readers_of w ≡ 0)
            → WordsHold M log record { words = words; homes = s.homes; views = set s.views id w }
        reads_on own fresh counted one idle =
            worded M log log o s words s.homes id v w kept b at live (record {
              live = live;
              parts = λ k none'. refl;
              heads = λ k none'. head_same k;
              latch = λ k below before now. latch_stays s.words i n k;
              free = λ k below held none'. absurd (let x = held_latched k (⊎_elim (λ a. a) (λ a. a) held) in let y = latch_stays s.words i n k in omega (arith, x, y, none'));
              own = record {
                taken = λ k first p is. head_same k ∙ old_wears.taken k first p is;
                worn = λ k two. head_same k ∙ old_wears.worn k two;
                near = old_wears.near;
                frozen = old_wears.frozen;
                room = old_wears.room;
                stages = old_wears.stages;
              };
              claims = λ j u else there k is c. claims_same u k c;
              claim = own;
              fresh = λ j u else there alive k is d. fresh j u there alive k is d;
              drained = λ k is. let d = b.drains.each id v at live k is in (d.held, d.hot, fresh id v at live k is d, d.alone);
              counted = counted;
              one = one;
              idle = idle;
            })

    -- a word that is found frozen is that of a part that is frozen so
    pub frozen_part : (p : P) → IsFrozen (head_at s.words i) → slice_get (replay M log) i ≡ Some p → M.head p ≡ head_at s.words i
    frozen_part p frozen is = by_cases (slice_index s.words (latch_word i)) 0 (M.head p ≡ head_at s.words i)
        (λ free. sym (b.words.free i lt free p is))
        (λ taken.
        let h = kept.at_home.latched i lt taken in
        let x = b.words.each (o.part i) h.0 h.1 h.2 in
        by_cases (stage h.0 i) 1 (M.head p ≡ head_at s.words i)
        (λ one. sym (x.taken i one p is))
        (λ ne.
        let two : stage h.0 i ≡ 2 = let l = x.stages i in let held = h.3 in omega (arith, l, held, ne) in
        let worn = x.worn i two in
        x.frozen i p two (subst IsFrozen worn frozen) is ∙ sym worn))

    -- ---- who holds the part turns its word

    module _ (two : stage v i ≡ 2) (same : readers_in n ≡ readers_at s.words i) (head : ℕ) (is_head : head_in n ≡ head)
        (claims : (j : ℕ) (u : View E) → get_elem? s.views j ≡ maybe.some u → u.claim ≡ suc i → Claims M log s.words u i → (head ≡ u.claimed) ⊎ (head + 3 * 2 ^ 30 ≡ u.claimed))
        (near : (p : P) → slice_get (replay M log) i ≡ Some p → MayTurn head (M.head p)) (frozen : (p : P) → IsFrozen head → slice_get (replay M log) i ≡ Some p → M.head p ≡ head) where
      abbrev w' : View E
      w' = turned v i head

      head_now : head_at words i ≡ head
      head_now = ap head_in here ∙ is_head

      head_else : (k : ℕ) → k ≢ i → head_at words k ≡ head_at s.words k
      head_else k ne = ap head_in (others_stay s.words i n k ne)

      readers_same : (k : ℕ) → readers_at words k ≡ readers_at s.words k
      readers_same k = by_cases k i (readers_at words k ≡ readers_at s.words k)
          (λ e. subst (λ (x : ℕ). readers_at words x ≡ readers_at s.words x) (sym e) (ap readers_in here ∙ same))
          (λ ne. ap readers_in (others_stay s.words i n k ne))

      claims_on : (j : ℕ) (u : View E) → get_elem? s.views j ≡ maybe.some u → (k : ℕ) → u.claim ≡ suc k → Claims M log s.words u k → Claims M log words u k
      claims_on j u there k is c = record {
        below = c.below;
        frozen = c.frozen;
        imaged = c.imaged;
        word = by_cases k i ((head_at words k ≡ u.claimed) ⊎ (head_at words k + 3 * 2 ^ 30 ≡ u.claimed))
            (λ e. subst (λ (x : ℕ). (head_at words x ≡ u.claimed) ⊎ (head_at words x + 3 * 2 ^ 30 ≡ u.claimed)) (sym e)
            (⊎_elim (λ h. inl (head_now ∙ h)) (λ h. inr (ap (λ x. x + 3 * 2 ^ 30) head_now ∙ h)) (claims j u there (is ∙ ap suc e) (subst (Claims M log s.words u) e c))))
            (λ ne. ⊎_elim (λ h. inl (head_else k ne ∙ h)) (λ h. inr (ap (λ x. x + 3 * 2 ^ 30) (head_else k ne) ∙ h)) c.word);
      }

      room : i < length v.worn
      room = let r = old_wears.room in by_cases (stage v i) 0 (i < length v.worn) (λ e. absurd (omega (arith, e, two))) (λ ne. let q = in_stages v.stages i ne in omega (arith, q, r))
        where
          in_stages : (xs : List ℕ) (k : ℕ) → slice_index xs k ≢ 0 → k < length xs
          in_stages [] k ne = absurd (ne refl)
          in_stages (x ∷ xs) zero ne = omega arith
          in_stages (x ∷ xs) (suc k) ne = let q = in_stages xs k ne in omega (arith, q)

      worn_here : worn_by w' i ≡ head
      worn_here = get_or-set_same v.worn i head 0 room

      worn_else : (k : ℕ) → k ≢ i → worn_by w' k ≡ worn_by v k
      worn_else k ne = get_or-set_other v.worn i k head 0 ne

      pub turn_words : WordsHold M log record { words = words; homes = s.homes; views = set s.views id w' }
      turn_words = worded M log log o s words s.homes id v w' kept b at live (record {
        live = live;
        parts = λ k none'. refl;
        heads = λ k none'. head_else k (λ e. absurd (let z = subst (λ (x : ℕ). stage v x ≡ 0) e none' in omega (arith, z, two)));
        latch = λ k below before now. latch_stays s.words i n k;
        free = λ k below held none'. absurd (let x = held_latched k (⊎_elim (λ a. a) (λ a. a) held) in let y = latch_stays s.words i n k in omega (arith, x, y, none'));
        own = record {
          taken = λ k one p is. head_else k (λ e. absurd (let z = subst (λ (x : ℕ). stage v x ≡ 1) e one in omega (arith, z, two))) ∙ old_wears.taken k one p is;
          worn = λ k also. by_cases k i (head_at words k ≡ worn_by w' k)
              (λ e. subst (λ (x : ℕ). head_at words x ≡ worn_by w' x) (sym e) (head_now ∙ sym worn_here))
              (λ ne. head_else k ne ∙ (old_wears.worn k also ∙ sym (worn_else k ne)));
          near = λ k p also is. by_cases k i (MayTurn (worn_by w' k) (M.head p))
              (λ e. subst (λ (x : ℕ). MayTurn (worn_by w' x) (M.head p)) (sym e) (subst (λ (h : ℕ). MayTurn h (M.head p)) (sym worn_here) (near p (ap (slice_get (replay M log)) (sym e) ∙ is))))
              (λ ne. subst (λ (h : ℕ). MayTurn h (M.head p)) (sym (worn_else k ne)) (old_wears.near k p also is));
          frozen = λ k p also cold is. by_cases k i (M.head p ≡ worn_by w' k)
              (λ e. subst (λ (x : ℕ). M.head p ≡ worn_by w' x) (sym e) (frozen p (subst IsFrozen (ap (worn_by w') e ∙ worn_here) cold) (ap (slice_get (replay M log)) (sym e) ∙ is) ∙ sym worn_here))
              (λ ne. old_wears.frozen k p also (subst IsFrozen (worn_else k ne) cold) is ∙ sym (worn_else k ne));
          room = length-set v.worn i head ∙ old_wears.room;
          stages = old_wears.stages;
        };
        claims = λ j u else there k is c. claims_on j u there k is c;
        claim = λ k is. let c = claims_on id v at k is (b.claims.each id v at k is) in record { below = c.below; frozen = c.frozen; imaged = c.imaged; word = c.word };
        fresh = λ j u else there alive k is d. d.alone id v at;
        drained = λ k is. absurd (omega (arith, is));
        counted = λ k below. ap (λ x. x + readers_on k v) (readers_same k);
        one = b.readers.one id v at;
        idle = b.readers.idle id v at;
      })

-- a number without the bits of its state
without_state : (n : ℕ) → bit_and n (2 ^ 62 - 1) ≡ n % 2 ^ 62
without_state n = and_mask n 62

clear_head : (n : ℕ) → n < 2 ^ 64 → n % 2 ^ 62 / 2 ^ 32 ≡ n / 2 ^ 32 % 2 ^ 30
clear_head n small = omega (arith, small)

clear_readers : (n : ℕ) → n < 2 ^ 64 → n % 2 ^ 62 % 2 ^ 32 ≡ n % 2 ^ 32
clear_readers n small = omega (arith, small)

pub raise_head : (n k : ℕ) → n < 2 ^ 64 → n / 2 ^ 32 + k < 2 ^ 32 → (n + k * 2 ^ 32) % 2 ^ 64 / 2 ^ 32 ≡ n / 2 ^ 32 + k
raise_head n k small room = omega (arith, small, room)

pub raise_readers : (n k : ℕ) → n < 2 ^ 64 → n / 2 ^ 32 + k < 2 ^ 32 → (n + k * 2 ^ 32) % 2 ^ 64 % 2 ^ 32 ≡ n % 2 ^ 32
raise_readers n k small room = omega (arith, small, room)

module _ {P E T F : Type 0} (M : Meaning P E T F) (laws : Laws M) (slots id : ℕ) (v : View E) (i : ℕ) (live : v.spent ≡ false) (lt : i < length M.start) where
  -- Who has neither a claim nor a bump enters a word: a claim exactly where it is found frozen, else a
  -- bump.
  pub enters : v.claim ≡ 0 → v.bump ≡ 0 → hands_of v ≢ 0 → Allows (Rule M) slots id (v, []) (block_word i) (λ n. (n + 1) % 2 ^ 64) (Enters M v i)
  enters no_claim no_bump hand s held deep at fits =
      let log = held.0 in
      let kept = (parts_of held.2) in
      let b = (words_of held.2) in
      let n : ℕ = slice_index s.words (block_word i) in
      let n' : ℕ = (n + 1) % 2 ^ 64 in
      let bound = readers_bounded M laws slots id v i live lt log held.1 s kept b at n' in
      let room : n % 2 ^ 32 + 1 < 2 ^ 32 = omega (arith, bound) in
      let head : head_in n' ≡ head_at s.words i = plus_head n fits room in
      let readers : readers_in n' ≡ readers_in n + 1 = plus_readers n fits room in
      let now = here M laws slots id v i live lt log held.1 s kept b at n' in
      let ws : List ℕ = set s.words (block_word i) n' in
      let before : (k : ℕ) → readers_on k v ≡ 0 = λ (k : ℕ). let z = none_on k in ap (λ (c : ℕ). cond {A = ℕ} (c == suc k) 1 0 + cond {A = ℕ} (v.bump == suc k) 1 0) no_claim ∙ (ap (λ (c : ℕ). cond {A = ℕ} (0 == suc k) 1 0 + cond {A = ℕ} (c == suc k) 1 0) no_bump ∙ (let e : cond {A = ℕ} (0 == suc k) 1 0 + cond {A = ℕ} (0 == suc k) 1 0 ≡ 0 = omega (arith, z) in e)) in
      let at_word : (k : ℕ) → readers_at ws k ≡ readers_at s.words k + cond {A = ℕ} (suc i == suc k) 1 0 = λ (k : ℕ). by_cases k i (readers_at ws k ≡ readers_at s.words k + cond {A = ℕ} (suc i == suc k) 1 0)
      (λ e. subst (λ (x : ℕ). readers_at ws x ≡ readers_at s.words x + cond {A = ℕ} (suc i == suc x) 1 0) (sym e) (let a = ap readers_in now in let c = on_same i in omega (arith, a, readers, c)))
      (λ ne. let a = ap readers_in (others_stay s.words i n' k ne) in let c = on_else i k ne in omega (arith, a, c)) in
      let one : cond {A = ℕ} (suc i == 0) 0 1 ≡ 1 = counts_one (suc i) (λ z. absurd (omega (arith, z))) in
      let Goal : View E → Type 0 = λ w. (PartsHold M log held.1 record { words = ws; homes = s.homes; views = set s.views id w }) × WordsHold M log record { words = ws; homes = s.homes; views = set s.views id w } in
      let goal : Goal (entered v i n) = bool_cases (leb (3 * 2 ^ 30) (head_in n)) (Goal (entered v i n))
      (λ is.
      let low : 3 * 2 ^ 30 ≤ head_in n = leb-true (3 * 2 ^ 30) (head_in n) is in
      let frozen : IsFrozen (head_in n) = (low, let f = fits in omega (arith, f)) in
      let found : List Found = v.found ++ record { part = i; word = n } ∷ [] in
      subst Goal (sym (ap (λ (c : Bool). cond c (claimed v i n) (bumped v i n)) is)) (
        block_kept M laws slots id v i live lt log held.1 s kept b at n' v.worn v.drained (suc i) (head_in n) v.bump found,
        reads_on M laws slots id v i live lt log held.1 s kept b at n' head (suc i) (head_in n) v.bump found
            (λ k e. subst (Claims M log ws (claimed v i n)) (let x : i ≡ k = omega (arith, e) in x) (record {
              below = lt;
              frozen = frozen;
              imaged = λ p there. frozen_part M laws slots id v i live lt log held.1 s kept b at n' p frozen there;
              word = inl (ap head_in now ∙ head);
            }))
            (λ j u there alive k is d e.
            let same : k ≡ i = omega (arith, e) in
            let x = b.words.each j u there alive in
            let worn = x.worn k d.held in
            let hot = d.hot in
            let h : head_at s.words k ≡ head_in n = ap (head_at s.words) same in
            omega (arith, worn, hot, h, low))
            (λ k below. let a = at_word k in let z = before k in let y : cond {A = ℕ} (v.bump == suc k) 1 0 ≡ 0 = ap (λ (c : ℕ). cond {A = ℕ} (c == suc k) 1 0) no_bump ∙ none_on k in omega (arith, a, z, y))
            (let y : cond {A = ℕ} (v.bump == 0) 0 1 ≡ 0 = ap (λ (c : ℕ). cond {A = ℕ} (c == 0) 0 1) no_bump in omega (arith, one, y))
            (λ none'. absurd (hand none')),
      ))
      (λ is.
      let found : List Found = v.found ++ record { part = i; word = n } ∷ [] in
      subst Goal (sym (ap (λ (c : Bool). cond c (claimed v i n) (bumped v i n)) is)) (
        block_kept M laws slots id v i live lt log held.1 s kept b at n' v.worn v.drained v.claim v.claimed (suc i) found,
        reads_on M laws slots id v i live lt log held.1 s kept b at n' head v.claim v.claimed (suc i) found
            (λ k e. absurd (omega (arith, e, no_claim)))
            (λ j u there alive k is d e. omega (arith, e, no_claim))
            (λ k below. let a = at_word k in let z = before k in let y : cond {A = ℕ} (v.claim == suc k) 1 0 ≡ 0 = ap (λ (c : ℕ). cond {A = ℕ} (c == suc k) 1 0) no_claim ∙ none_on k in omega (arith, a, z, y))
            (let y : cond {A = ℕ} (v.claim == 0) 0 1 ≡ 0 = ap (λ (c : ℕ). cond {A = ℕ} (c == 0) 0 1) no_claim in omega (arith, one, y))
            (λ none'. absurd (hand none')),
      )) in
      (entered v i n, keeps, tt, (log, held.1, both goal.0 goal.1), record { view = refl; none_out = refl; worn = (b.words.each id v at live).worn i })

  -- Who has a claim leaves: it finds the claim's stamp, frozen, or hot where a thaw waits. Who has a bump
  -- takes it back.
  module _ (log : List (Entry E)) (o : Owners) (s : State (Option P) (View E)) (kept : PartsHold M log o s) (b : WordsHold M log s) (at : get_elem? s.views id ≡ maybe.some v) (fits : slice_index s.words (block_word i) < 2 ^ 64)
      (mine : (k : ℕ) → readers_on k v ≡ cond {A = ℕ} (suc i == suc k) 1 0) where
    abbrev found_there : ℕ
    found_there = slice_index s.words (block_word i)

    abbrev next : ℕ
    next = (found_there + (2 ^ 64 - 1)) % 2 ^ 64

    some_reader : 1 ≤ found_there % 2 ^ 32
    some_reader = let c = b.readers.counted i lt in let t = total_at (readers_on i) s.views id v at in let e = t.1 in let m = mine i in let x = on_same i in omega (arith, c, e, m, x)

    left_both : PartsHold M log o record { words = set s.words (block_word i) next; homes = s.homes; views = set s.views id (left v) } × WordsHold M log record { words = set s.words (block_word i) next; homes = s.homes; views = set s.views id (left v) }
    left_both =
        let now = here M laws slots id v i live lt log o s kept b at next in
        let head : head_in next ≡ head_at s.words i = minus_head found_there fits some_reader in
        let readers = minus_readers found_there fits some_reader in
        let ws : List ℕ = set s.words (block_word i) next in (
          block_kept M laws slots id v i live lt log o s kept b at next v.worn v.drained 0 v.claimed 0 v.found,
          reads_on M laws slots id v i live lt log o s kept b at next head 0 v.claimed 0 v.found
              (λ k e. absurd (omega (arith, e)))
              (λ j u there alive k is d e. omega (arith, e))
              (λ k below.
              let z = none_on k in
              let m = mine k in
              by_cases k i (readers_at ws k + readers_on k v ≡ readers_at s.words k + (cond {A = ℕ} (0 == suc k) 1 0 + cond {A = ℕ} (0 == suc k) 1 0))
              (λ e. subst (λ (x : ℕ). readers_at ws x + readers_on x v ≡ readers_at s.words x + (cond {A = ℕ} (0 == suc x) 1 0 + cond {A = ℕ} (0 == suc x) 1 0)) (sym e)
              (let a = ap readers_in now in let c = on_same i in let y = mine i in let q = none_on i in omega (arith, a, c, y, readers, q)))
              (λ ne. let a = ap readers_in (others_stay s.words i next k ne) in let c = on_else i k ne in omega (arith, a, c, m, z)))
              (omega arith)
              (λ _. refl),
        )

  pub leaves : v.claim ≡ suc i → v.bump ≡ 0 → Allows (Rule M) slots id (v, []) (block_word i) (λ n. (n + (2 ^ 64 - 1)) % 2 ^ 64)
      (λ n me. (me.0 ≡ left v) × (me.1 ≡ []) × ((head_in n ≡ v.claimed) ⊎ (head_in n + 3 * 2 ^ 30 ≡ v.claimed)))
  leaves claim no_bump s held deep at fits =
      let mine : (k : ℕ) → readers_on k v ≡ cond {A = ℕ} (suc i == suc k) 1 0 = λ (k : ℕ).
      let a : cond {A = ℕ} (v.bump == suc k) 1 0 ≡ 0 = ap (λ (c : ℕ). cond {A = ℕ} (c == suc k) 1 0) no_bump ∙ none_on k in
      let c : cond {A = ℕ} (v.claim == suc k) 1 0 ≡ cond {A = ℕ} (suc i == suc k) 1 0 = ap (λ (c : ℕ). cond {A = ℕ} (c == suc k) 1 0) claim in
      omega (arith, a, c) in
      let r = left_both held.0 held.1 s (parts_of held.2) (words_of held.2) at fits mine in
      (left v, keeps, tt, (held.0, held.1, both r.0 r.1), (refl, refl, (held.2.claims.each id v at i claim).word))

  pub takes_back : v.bump ≡ suc i → v.claim ≡ 0 → Allows (Rule M) slots id (v, []) (block_word i) (λ n. (n + (2 ^ 64 - 1)) % 2 ^ 64) (λ n me. (me.0 ≡ left v) × (me.1 ≡ []))
  takes_back bump no_claim s held deep at fits =
      let mine : (k : ℕ) → readers_on k v ≡ cond {A = ℕ} (suc i == suc k) 1 0 = λ (k : ℕ).
      let a : cond {A = ℕ} (v.claim == suc k) 1 0 ≡ 0 = ap (λ (c : ℕ). cond {A = ℕ} (c == suc k) 1 0) no_claim ∙ none_on k in
      let c : cond {A = ℕ} (v.bump == suc k) 1 0 ≡ cond {A = ℕ} (suc i == suc k) 1 0 = ap (λ (c : ℕ). cond {A = ℕ} (c == suc k) 1 0) bump in
      omega (arith, a, c) in
      let r = left_both held.0 held.1 s (parts_of held.2) (words_of held.2) at fits mine in
      (left v, keeps, tt, (held.0, held.1, both r.0 r.1), (refl, refl))

  -- ---- who holds the part

  -- A thaw clears the word of a frozen block, before its event.
  pub clears : stage v i ≡ 2 → IsFrozen (worn_by v i) → Allows (Rule M) slots id (v, []) (block_word i) (λ n. bit_and n (2 ^ 62 - 1)) (λ n me. (me.0 ≡ turned v i (worn_by v i % 2 ^ 30)) × (me.1 ≡ []) × (head_in n ≡ worn_by v i))
  clears two frozen s held deep at fits =
      let log = held.0 in
      let kept = (parts_of held.2) in
      let b = (words_of held.2) in
      let n : ℕ = slice_index s.words (block_word i) in
      let worn : head_in n ≡ worn_by v i = (b.words.each id v at live).worn i two in
      let is = without_state n in
      let n' : ℕ = bit_and n (2 ^ 62 - 1) in
      let h : ℕ = worn_by v i % 2 ^ 30 in
      let head : head_in n' ≡ h = ap head_in is ∙ (clear_head n fits ∙ ap (λ (x : ℕ). x % 2 ^ 30) worn) in
      let readers : readers_in n' ≡ readers_at s.words i = ap readers_in is ∙ clear_readers n fits in
      let low = frozen.0 in
      let high = frozen.1 in (
        turned v i h,
        keeps,
        tt,
        (
          log,
          held.1,
          both (block_kept M laws slots id v i live lt log held.1 s kept b at n' (set v.worn i h) 0 v.claim v.claimed v.bump v.found)
              (turn_words M laws slots id v i live lt log held.1 s kept b at n' two readers h head
              (λ j u there is c. inr (⊎_elim
              (λ e. let q : worn_by v i ≡ u.claimed = sym worn ∙ e in omega (arith, q, low, high))
              (λ e. absurd (let f = c.frozen.1 in omega (arith, worn, e, low, high, f)))
              c.word))
              (λ p is. let same = (b.words.each id v at live).frozen i p two frozen is in inr (inr (omega arith, omega (arith, same, low, high))))
              (λ p cold is. absurd (let c = cold.0 in omega (arith, c)))),
        ),
        (refl, refl, worn),
      )

  -- A word gets the head that its part has: raised after an event, raised again after a refused thaw, or
  -- cleared to hot.
  pub settles : (f : ℕ → ℕ) (p : P) → stage v i ≡ 2 → slice_get (replay M v.log) i ≡ Some p
      → ((n : ℕ) → n < 2 ^ 64 → head_in n ≡ worn_by v i → (head_in (f n) ≡ M.head p) × (readers_in (f n) ≡ readers_in n))
      → Allows (Rule M) slots id (v, []) (block_word i) f (λ n me. (me.0 ≡ turned v i (M.head p)) × (me.1 ≡ []) × (head_in n ≡ worn_by v i))
  settles f p two value turns s held deep at fits =
      let log = held.0 in
      let kept = (parts_of held.2) in
      let b = (words_of held.2) in
      let n : ℕ = slice_index s.words (block_word i) in
      let worn : head_in n ≡ worn_by v i = (b.words.each id v at live).worn i two in
      let t = turns n fits worn in
      let there : slice_get (replay M log) i ≡ Some p = (learns M laws log held.1 s id v kept b at live).parts i two ∙ value in (
        turned v i (M.head p),
        keeps,
        tt,
        (
          log,
          held.1,
          both (block_kept M laws slots id v i live lt log held.1 s kept b at (f n) (set v.worn i (M.head p)) 0 v.claim v.claimed v.bump v.found)
              (turn_words M laws slots id v i live lt log held.1 s kept b at (f n) two t.1 (M.head p) t.0
              (λ j u found is c. inl (c.imaged p there))
              (λ q is. inl (ap M.head (one_part (replay M log) i q p is there)))
              (λ q cold is. ap M.head (one_part (replay M log) i q p is there))),
        ),
        (refl, refl, worn),
      )

  -- A load of a hot word without a reader: nobody has a claim.
  pub drains : stage v i ≡ 2 → IsHot (worn_by v i) → Allows (Rule M) slots id (v, []) (block_word i) (λ n. n)
      (λ n me. (me.0 ≡ cond (readers_in n == 0) (emptied v i) v) × (me.1 ≡ []))
  drains two hot s held deep at fits =
      let log = held.0 in
      let kept = (parts_of held.2) in
      let b = (words_of held.2) in
      let n : ℕ = slice_index s.words (block_word i) in
      let Goal : View E → Type 0 = λ w. (PartsHold M log held.1 record { words = set s.words (block_word i) n; homes = s.homes; views = set s.views id w }) × WordsHold M log record { words = set s.words (block_word i) n; homes = s.homes; views = set s.views id w } in
      let goal : Goal (cond (readers_in n == 0) (emptied v i) v) = by_cases (readers_in n) 0 (Goal (cond (readers_in n == 0) (emptied v i) v))
      (λ none'. subst Goal (sym (ap (λ (c : Bool). cond c (emptied v i) v) (eq-eqb (readers_in n) 0 none'))) (
        block_kept M laws slots id v i live lt log held.1 s kept b at n v.worn (suc i) v.claim v.claimed v.bump v.found,
        emptied_words log held.1 s kept b at none',
      ))
      (λ some'. subst Goal (sym (ap (λ (c : Bool). cond c (emptied v i) v) (ne_eqb (readers_in n) 0 some'))) (
        block_kept M laws slots id v i live lt log held.1 s kept b at n v.worn v.drained v.claim v.claimed v.bump v.found,
        subst (λ (ws : List ℕ). WordsHold M log record { words = ws; homes = s.homes; views = set s.views id v }) (sym (unset s.words (block_word i)))
            (subst (λ (vs : List (View E)). WordsHold M log record { words = s.words; homes = s.homes; views = vs }) (sym (Rattle.atomic_table.proofs.Lists.set_again s.views id v at)) b),
      )) in
      (cond (readers_in n == 0) (emptied v i) v, keeps, tt, (log, held.1, both goal.0 goal.1), (refl, refl))
    where
      emptied_words : (log : List (Entry E)) (o : Owners) (s : State (Option P) (View E)) → PartsHold M log o s → (b : WordsHold M log s) → (at : get_elem? s.views id ≡ maybe.some v) → readers_at s.words i ≡ 0
          → WordsHold M log record { words = set s.words (block_word i) (slice_index s.words (block_word i)); homes = s.homes; views = set s.views id (emptied v i) }
      emptied_words log o s kept b at none' =
          let old = b.words.each id v at live in
          let c = b.readers.counted i lt in
          subst (λ (ws : List ℕ). WordsHold M log record { words = ws; homes = s.homes; views = set s.views id (emptied v i) }) (sym (unset s.words (block_word i)))
          (worded M log log o s s.words s.homes id v (emptied v i) kept b at live (record {
            live = live;
            parts = λ k away. refl;
            heads = λ k away. refl;
            latch = λ k below before now. refl;
            free = λ k below held none''. absurd (let x = ((kept.at_home.each id v at live).holds k (⊎_elim (λ a. a) (λ a. a) held)).1 in omega (arith, x, none''));
            own = record { taken = old.taken; worn = old.worn; near = old.near; frozen = old.frozen; room = old.room; stages = old.stages };
            claims = λ j u else there k is x. x;
            claim = λ k is. let x = b.claims.each id v at k is in record { below = x.below; frozen = x.frozen; imaged = x.imaged; word = x.word };
            fresh = λ j u else there alive k is d. d.alone id v at;
            drained = λ k is.
                let same : i ≡ k = omega (arith, is) in
                let alone : (j : ℕ) (u : View E) → get_elem? s.views j ≡ maybe.some u → u.claim ≢ suc k = λ (j : ℕ) (u : View E) there e.
                let t = total_at (readers_on i) s.views j u there in
                let sum = t.1 in
                let one : cond {A = ℕ} (u.claim == suc i) 1 0 ≡ 1 = ap (λ (x : ℕ). cond {A = ℕ} (x == suc i) 1 0) (e ∙ ap suc (sym same)) ∙ on_same i in
                omega (arith, c, sum, one, none') in
                (subst (λ (x : ℕ). stage v x ≡ 2) same two, subst (λ (x : ℕ). IsHot (worn_by v x)) same hot, alone id v at, alone);
            counted = λ k below. refl;
            one = b.readers.one id v at;
            idle = b.readers.idle id v at;
          }))

module _ {P E T F : Type 0} (M : Meaning P E T F) (laws : Laws M) (slots id : ℕ) (v : View E) (i : ℕ) (live : v.spent ≡ false) where
  -- Who holds the part reads its word's head.
  pub reads : stage v i ≡ 2 → Allows (Rule M) slots id (v, []) (block_word i) (λ n. n) (λ n me. (me.0 ≡ v) × (me.1 ≡ []) × (head_in n ≡ worn_by v i))
  reads two s held deep at fits =
      let log = held.0 in (
        v,
        keeps,
        tt,
        (
          log,
          held.1,
          subst (λ (ws : List ℕ). HallInvariant M log held.1 record { words = ws; homes = s.homes; views = set s.views id v }) (sym (unset s.words (block_word i)))
              (subst (λ (vs : List (View E)). HallInvariant M log held.1 record { words = s.words; homes = s.homes; views = vs }) (sym (Rattle.atomic_table.proofs.Lists.set_again s.views id v at)) held.2),
        ),
        (refl, refl, (held.2.words.each id v at live).worn i two),
      )

-- what a clear makes of a word
pub cleared_head : (n : ℕ) → n < 2 ^ 64 → bit_and n (2 ^ 62 - 1) / 2 ^ 32 ≡ n / 2 ^ 32 % 2 ^ 30
cleared_head n small = ap (λ (x : ℕ). x / 2 ^ 32) (without_state n) ∙ clear_head n small

pub cleared_readers : (n : ℕ) → n < 2 ^ 64 → bit_and n (2 ^ 62 - 1) % 2 ^ 32 ≡ n % 2 ^ 32
cleared_readers n small = ap (λ (x : ℕ). x % 2 ^ 32) (without_state n) ∙ clear_readers n small
