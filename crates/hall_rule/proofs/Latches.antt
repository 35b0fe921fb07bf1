-- The steps by which a part is taken and given keep the invariant.
use Rattle.std.proofs.Common.{◌≡◌, ◌≢◌, ℕ, zero, suc, ◌+◌, ◌<◌, eqb, Bool, true, false, cond, List, [], ◌∷◌, ◌++◌, Option, Some, None, length, set, get_or, get_or-set_same, get_or-set_other, refl, sym, ap, subst, ◌∙◌, ◌⊎◌, inl, inr, ⊎_elim, eq-eqb, ne_eqb, length-set, arith}
use Rattle.std.specs.Prelude.{slice_get, slice_index}
use mathlib.Core.Option as maybe
use lib.ListN.{get_elem?}
use prog.Atomic.{either}
use Rattle.atomic_table.specs.Table.{Act, Allows, State, Valid, carried_after, stepped}
use Rattle.atomic_table.specs.Table.Act.{keeps, takes, gives}
use Rattle.atomic_table.proofs.Lists.{set_else, set_here}
use Rattle.hall_rule.specs.EventLog.{Untouched, has, replay, replay_from}
use Rattle.hall_rule.specs.HallInvariant.{AtHome, HallInvariant, Owners, hands_of, latch_word, since, stage, worn_by}
use Rattle.hall_rule.specs.Rule.{Rule}
use Rattle.hall_rule.specs.Meaning.{Laws, Meaning}
use Rattle.hall_rule.specs.Views.{Draws, Gives, Homes, Latches, Learned, Loads, drawn, given, homed, loaded, staged}
use Rattle.hall_rule.specs.Slots.{slot_of}
use Rattle.hall_rule.specs.declared.view.Entry.{Entry}
use Rattle.hall_rule.specs.declared.view.View.{View}
use Rattle.hall_rule.proofs.Lists.{by_cases, others_few, total_at}
use Rattle.hall_rule.proofs.Logs.{replay_append, room_stands, since_whole, sound_after, untouched_same}
use Rattle.hall_rule.proofs.LatchWords.{giving_words, loading_words, still_words, taken_words}
use Rattle.hall_rule.proofs.Moved.{later_lawful, later_state}
use Rattle.hall_rule.proofs.Numbers.{has_here, has_left, has_right}
use Rattle.hall_rule.proofs.Quiet.{Stirs, stirred}
use Rattle.hall_rule.proofs.Halves.{PartsHold, WordsHold, both, parts_of, words_of}

-- the stage of a part after it was set
pub stage_here : {E : Type 0} (v : View E) (k n : ℕ) → k < length v.stages → slice_index (set v.stages k n) k ≡ n
stage_here v k n lt = get_or-set_same v.stages k n 0 lt

-- the stages of other parts stay
pub stage_else : {E : Type 0} (v : View E) (k n i : ℕ) → i ≢ k → slice_index (set v.stages k n) i ≡ stage v i
stage_else v k n i ne = get_or-set_other v.stages k i n 0 ne

-- setting what stands there already changes nothing
pub unset : (l : List ℕ) (i : ℕ) → set l i (get_or l i 0) ≡ l
unset [] i = refl
unset (x ∷ xs) zero = refl
unset (x ∷ xs) (suc i) = ap (λ l. x ∷ l) (unset xs i)

module _ {P E T F : Type 0} (M : Meaning P E T F) (laws : Laws M) where
  -- What a view learns when it sees the whole log.
  pub learns : (log : List (Entry E)) (o : Owners) (s : State (Option P) (View E)) (id : ℕ) (v : View E) → PartsHold M log o s → WordsHold M log s → get_elem? s.views id ≡ maybe.some v → v.spent ≡ false → Learned M id v log
  learns log o s id v kept words at live =
      let l = kept.one_log.each id v at live in
      let t = kept.lawful.each id v at live in
      let b = later_lawful M laws log v l.goes_on kept.lawful.lawful in
      record {
        goes_on = l.goes_on;
        before = l.before;
        heard = l.heard;
        begins = kept.lawful.begins;
        mine = l.mine;
        total = l.total;
        sound = sound_after M laws M.start log kept.lawful.begins kept.lawful.lawful;
        lawful = kept.lawful.lawful;
        spared = t.spared;
        parts = λ k two. ap (λ (x : List P). slice_get x k) (later_state M log v l.goes_on) ∙ untouched_same M k (replay M v.log) (since v log) ((kept.at_home.each id v at live).loaded k two);
        kept = λ k two.
            let state : replay M log ≡ replay_from M (replay M v.before) (Rattle.std.proofs.Common.drop (length v.before) log) = ap (replay M) l.before ∙ replay_append M M.start v.before (Rattle.std.proofs.Common.drop (length v.before) log) in
            ap (λ (x : List P). slice_get x k) state ∙ untouched_same M k (replay M v.before) (Rattle.std.proofs.Common.drop (length v.before) log) ((kept.at_home.each id v at live).kept k two);
        few_hands = let n = total_at hands_of s.views id v at in let h = kept.hands.handed in let m = kept.hands.limit in let e = n.1 in omega (arith, e, h, m);
        transactions = t.transactions;
        distinct = t.distinct;
        facts = kept.facts.each id v at live;
        room = room_stands M laws M.start log kept.lawful.begins kept.lawful.lawful;
        stood = t.stood;
        came = t.came;
        tied = t.tied;
        few = kept.hands.few id v at;
        budget = let n = others_few s.views id v at kept.hands.few in let h = kept.hands.handed in let e = kept.hands.entries in omega (arith, n, h, e);
        limit = kept.hands.limit;
        imaged = λ k p is there. (words.claims.each id v at k is).imaged p there;
      }

  module _ (slots id : ℕ) (v : View E) (k : ℕ) (live : v.spent ≡ false) (lt : k < length M.start) (room : k < length v.stages) where
    -- The latch of the part k was free, and is taken now.
    taken : (log : List (Entry E)) (o : Owners) (s : State (Option P) (View E)) → PartsHold M log o s → get_elem? s.views id ≡ maybe.some v
        → stage v k ≡ 0 → hands_of v ≢ 0 → slice_index s.words (latch_word k) ≡ 0 → Stirs M log o (λ i. cond (eqb i k) id (o.part i)) s (set s.words (latch_word k) 1) s.homes id v (staged v k 1)
    taken log o s kept at away hand free =
        let old = kept.at_home.each id v at live in
        let wide : latch_word k < length s.words = let w = kept.at_home.wide in omega (arith, w, lt) in
        let one : slice_index (set s.words (latch_word k) 1) (latch_word k) ≡ 1 = get_or-set_same s.words (latch_word k) 1 0 wide in
        let word : (i : ℕ) → i ≢ k → slice_index (set s.words (latch_word k) 1) (latch_word i) ≡ slice_index s.words (latch_word i) = λ (i : ℕ) ne. get_or-set_other s.words (latch_word k) (latch_word i) 1 0 (λ e. ne (omega (arith, e))) in
        let part : (i : ℕ) → i ≢ k → cond (eqb i k) id (o.part i) ≡ o.part i = λ (i : ℕ) ne. ap (λ b. cond b id (o.part i)) (ne_eqb i k ne) in
        let mine : cond (eqb k k) id (o.part k) ≡ id = ap (λ b. cond b id (o.part k)) (eq-eqb k k refl) in
        let here = stage_here v k 1 room in
        let else : (i : ℕ) → i ≢ k → stage (staged v k 1) i ≡ stage v i = λ (i : ℕ) ne. stage_else v k 1 i ne in
        record {
          lasts = refl;
          before = inl refl;
          live = live;
          seen = inl refl;
          counted = get_or-set_other s.words (latch_word k) 0 1 0 (λ e. absurd (omega (arith, e)));
          wide = length-set s.words (latch_word k) 1;
          deep = refl;
          idle = λ none'. absurd (hand none');
          same = λ i below before now.
              let ne : i ≢ k = λ e. absurd (let h = subst (λ (x : ℕ). stage (staged v k 1) x ≡ 0) e now in omega (arith, h, here)) in
              (word i ne, refl, part i ne);
          fresh = λ i before now. by_cases i k (slice_index s.words (latch_word i) ≡ 0) (λ e. ap (λ (x : ℕ). slice_index s.words (latch_word x)) e ∙ free) (λ ne. absurd (now (else i ne ∙ before)));
          free = λ i below held none'. by_cases i k (AtHome M log s.homes i)
              (λ e. absurd (let h = subst (λ (x : ℕ). slice_index (set s.words (latch_word k) 1) (latch_word x) ≡ 0) e none' in omega (arith, h, one)))
              (λ ne.
              let h : stage v i ≢ 0 = ⊎_elim (λ a. a) (λ a e. a (else i ne ∙ e)) held in
              let x = (old.holds i h).1 in let y = word i ne in absurd (omega (arith, x, y, none')));
          latched = λ i below held some'. by_cases i k ((cond (eqb i k) id (o.part i) ≡ id) × (stage (staged v k 1) i ≢ 0))
              (λ e. subst (λ (x : ℕ). (cond (eqb x k) id (o.part x) ≡ id) × (stage (staged v k 1) x ≢ 0)) (sym e) (mine, (λ z. absurd (omega (arith, z, here)))))
              (λ ne.
              let h : stage v i ≢ 0 = ⊎_elim (λ a. a) (λ a e. a (else i ne ∙ e)) held in
              (part i ne ∙ (old.holds i h).2, (λ z. h (sym (else i ne) ∙ z))));
          parts = record {
            holds = λ i held. by_cases i k ((i < length M.start) × (slice_index (set s.words (latch_word k) 1) (latch_word i) ≡ 1) × (cond (eqb i k) id (o.part i) ≡ id))
                (λ e. subst (λ (x : ℕ). (x < length M.start) × (slice_index (set s.words (latch_word k) 1) (latch_word x) ≡ 1) × (cond (eqb x k) id (o.part x) ≡ id)) (sym e) (lt, one, mine))
                (λ ne. let h = old.holds i (λ z. held (else i ne ∙ z)) in (h.0, word i ne ∙ h.1, part i ne ∙ h.2));
            taken = λ i first. by_cases i k (AtHome M log s.homes i) (λ e. subst (AtHome M log s.homes) (sym e) (kept.at_home.free k lt free)) (λ ne. old.taken i (sym (else i ne) ∙ first));
            loaded = λ i two. by_cases i k (Untouched M i (replay M v.log) (since v log))
                (λ e. absurd (let h = subst (λ (x : ℕ). stage (staged v k 1) x ≡ 2) e two in omega (arith, h, here))) (λ ne. old.loaded i (sym (else i ne) ∙ two));
            kept = λ i two. by_cases i k (Untouched M i (replay M v.before) (Rattle.std.proofs.Common.drop (length v.before) log))
                (λ e. absurd (let h = subst (λ (x : ℕ). stage (staged v k 1) x ≡ 2) e two in omega (arith, h, here))) (λ ne. old.kept i (sym (else i ne) ∙ two));
            in_hand = λ i two out. by_cases i k (get_elem? s.homes (slot_of i) ≡ maybe.some (maybe.some None))
                (λ e. absurd (let h = subst (λ (x : ℕ). stage (staged v k 1) x ≡ 2) e two in omega (arith, h, here))) (λ ne. old.in_hand i (sym (else i ne) ∙ two) out);
            out = λ i e.
                let h = old.out i e in
                let ne : i ≢ k = λ x. absurd (let z = subst (λ (y : ℕ). stage v y ≡ 2) x h in omega (arith, z, away)) in
                else i ne ∙ h;
            ever = λ i held. by_cases i k (has i (v.taken ++ k ∷ []) ≡ true) (λ e. has_right i v.taken (k ∷ []) (has_here i k [] e)) (λ ne. has_left i v.taken (k ∷ []) (old.ever i (λ z. held (else i ne ∙ z))));
          };
        }

    -- A free latch word is taken, and the part with it; one that is taken stays as it is.
    pub latches : stage v k ≡ 0 → hands_of v ≢ 0 → Allows (Rule M) slots id (v, []) (latch_word k) (λ n. either (eqb n 0) 1 n) (Latches M v k)
    latches away hand s held deep at fits =
        let n : ℕ = slice_index s.words (latch_word k) in
        let Goal : ℕ → Type 0 = λ m. (w : View E) × (a : Act (Option P)) × Valid s.homes [] a × Rule M (stepped s (latch_word k) m id [] w a) × Latches M v k n (w, carried_after [] a) in
        by_cases n 0 (Goal (either (eqb n 0) 1 n))
        (λ e.
        let b = eq-eqb n 0 e in
        subst Goal (sym (ap (λ (x : Bool). either x 1 n) b)) (
          staged v k 1,
          keeps,
          tt,
          (held.0, record { part = (λ (i : ℕ). cond (eqb i k) id (held.1.part i)); number = held.1.number; session = held.1.session }, both (stirred M laws held.0 held.1 (λ (i : ℕ). cond (eqb i k) id (held.1.part i)) s (set s.words (latch_word k) 1) s.homes id v (staged v k 1) (parts_of held.2) at live (taken held.0 held.1 s (parts_of held.2) at away hand e)) (taken_words M held.0 held.1 s s.homes id v k (parts_of held.2) (words_of held.2) at live lt room e away)),
          (sym (ap (λ (x : Bool). cond x (staged v k 1) v) b), refl),
        ))
        (λ ne.
        let b = ne_eqb n 0 ne in
        subst Goal (sym (ap (λ (x : Bool). either x 1 n) b)) (
          v,
          keeps,
          tt,
          (
            held.0,
            held.1,
            subst (λ (ws : List ℕ). HallInvariant M held.0 held.1 record { words = ws; homes = s.homes; views = set s.views id v }) (sym (unset s.words (latch_word k)))
                (subst (λ (vs : List (View E)). HallInvariant M held.0 held.1 record { words = s.words; homes = s.homes; views = vs }) (sym (Rattle.atomic_table.proofs.Lists.set_again s.views id v at)) held.2),
          ),
          (sym (ap (λ (x : Bool). cond x (staged v k 1) v) b), refl),
        ))

    -- The event word is loaded, and the part, which is at home, goes out.
    loading : (head : ℕ) (log : List (Entry E)) (o : Owners) (s : State (Option P) (View E)) → PartsHold M log o s → get_elem? s.views id ≡ maybe.some v
        → stage v k ≡ 1 → v.out ≡ 0 → Stirs M log o o.part s s.words (set s.homes (slot_of k) maybe.none) id v (loaded v k head log)
    loading head log o s kept at one none_out =
        let old = kept.at_home.each id v at live in
        let here = stage_here v k 2 room in
        let else : (i : ℕ) → i ≢ k → stage (loaded v k head log) i ≡ stage v i = λ (i : ℕ) ne. stage_else v k 2 i ne in
        let home : (i : ℕ) → i ≢ k → get_elem? (set s.homes (slot_of k) maybe.none) (slot_of i) ≡ get_elem? s.homes (slot_of i) = λ (i : ℕ) ne. set_else s.homes (slot_of k) (slot_of i) maybe.none (λ e. ne (omega (arith, e))) in
        let before : (i : ℕ) → (stage v i ≢ 0) ⊎ (stage (loaded v k head log) i ≢ 0) → stage v i ≢ 0 = λ (i : ℕ) held. by_cases i k (stage v i ≢ 0)
        (λ e z. absurd (let h = subst (λ (x : ℕ). stage v x ≡ 0) e z in omega (arith, h, one))) (λ ne. ⊎_elim (λ a. a) (λ a e. a (else i ne ∙ e)) held) in
        let now : (i : ℕ) → stage v i ≢ 0 → stage (loaded v k head log) i ≢ 0 = λ (i : ℕ) held. by_cases i k (stage (loaded v k head log) i ≢ 0)
        (λ e z. absurd (let h = subst (λ (x : ℕ). stage (loaded v k head log) x ≡ 0) e z in omega (arith, h, here))) (λ ne z. held (sym (else i ne) ∙ z)) in
        record {
          lasts = refl;
          before = inr refl;
          live = live;
          seen = inr refl;
          counted = refl;
          wide = refl;
          deep = length-set s.homes (slot_of k) maybe.none;
          idle = λ none'. absurd (let z = kept.hands.idle id v at none' k in omega (arith, z, one));
          same = λ i below was is.
              let ne : i ≢ k = λ e. absurd (let h = subst (λ (x : ℕ). stage v x ≡ 0) e was in omega (arith, h, one)) in
              (refl, home i ne, refl);
          fresh = λ i was is. absurd (before i (inr is) was);
          free = λ i below held none'. absurd (let h = (old.holds i (before i held)).1 in omega (arith, h, none'));
          latched = λ i below held some'. ((old.holds i (before i held)).2, now i (before i held));
          parts = record {
            holds = λ i held. old.holds i (before i (inr held));
            taken = λ i first.
                let ne : i ≢ k = λ e. absurd (let h = subst (λ (x : ℕ). stage (loaded v k head log) x ≡ 1) e first in omega (arith, h, here)) in
                let h = old.taken i (sym (else i ne) ∙ first) in
                (h.0, h.1, home i ne ∙ h.2);
            loaded = λ i two. subst (Untouched M i (replay M log)) (sym (since_whole (loaded v k head log) log refl)) tt;
            kept = λ i two. subst (Untouched M i (replay M log)) (sym (since_whole (loaded v k head log) log refl)) tt;
            in_hand = λ i two out.
                let ne : i ≢ k = λ e. out (ap suc (sym e)) in
                home i ne ∙ old.in_hand i (sym (else i ne) ∙ two) (λ e. absurd (omega (arith, e, none_out)));
            out = λ i e. let same : i ≡ k = omega (arith, e) in subst (λ (x : ℕ). stage (loaded v k head log) x ≡ 2) (sym same) here;
            ever = λ i held. old.ever i (before i (inr held));
          };
        }

    -- The event word is loaded behind a latch: the pass sees the whole log, and the slot goes out.
    pub loads : stage v k ≡ 1 → v.out ≡ 0 → Allows (Rule M) slots id (v, []) 0 (λ n. n) (Loads M id v k)
    loads one none_out s held deep at fits =
        let log = held.0 in
        let kept = (parts_of held.2) in
        let home = (kept.at_home.each id v at live).taken k one in
        let head : ℕ = M.head home.0 in (
          loaded v k head log,
          takes (slot_of k) (Some home.0),
          home.2,
          (
            log,
            held.1,
            subst (λ (ws : List ℕ). HallInvariant M log held.1 record { words = ws; homes = set s.homes (slot_of k) maybe.none; views = set s.views id (loaded v k head log) }) (sym (unset s.words 0))
                (both (stirred M laws log held.1 held.1.part s s.words (set s.homes (slot_of k) maybe.none) id v (loaded v k head log) kept at live (loading head log held.1 s kept at one none_out))
                (loading_words M log held.1 s (set s.homes (slot_of k) maybe.none) id v k kept (words_of held.2) at live lt room home.0 one home.1)),
          ),
          (log, home.0, learns log held.1 s id v kept (words_of held.2) at live, home.1, refl, refl, kept.one_log.counted),
        )

    -- One slot changes whose part is in the view's hand, and nothing else but what is out.
    shifting : (log : List (Entry E)) (o : Owners) (s : State (Option P) (View E)) (h : maybe.Option (Option P)) (out : ℕ) → PartsHold M log o s → get_elem? s.views id ≡ maybe.some v
        → stage v k ≡ 2
        → ((i : ℕ) → stage v i ≡ 2 → out ≢ suc i → get_elem? (set s.homes (slot_of k) h) (slot_of i) ≡ maybe.some (maybe.some None)) → ((i : ℕ) → out ≡ suc i → stage v i ≡ 2)
        → Stirs M log o o.part s s.words (set s.homes (slot_of k) h) id v (record v { out = out })
    shifting log o s h out kept at two in_hand is_out =
        let old = kept.at_home.each id v at live in
        let home : (i : ℕ) → stage v i ≢ 2 → get_elem? (set s.homes (slot_of k) h) (slot_of i) ≡ get_elem? s.homes (slot_of i) = λ (i : ℕ) ne. set_else s.homes (slot_of k) (slot_of i) h (λ e. ne (ap (stage v) (let same : i ≡ k = omega (arith, e) in same) ∙ two)) in
        let before : (i : ℕ) → (stage v i ≢ 0) ⊎ (stage v i ≢ 0) → stage v i ≢ 0 = λ (i : ℕ) held. ⊎_elim (λ a. a) (λ a. a) held in
        record {
          lasts = refl;
          before = inl refl;
          live = live;
          seen = inl refl;
          counted = refl;
          wide = refl;
          deep = length-set s.homes (slot_of k) h;
          idle = kept.hands.idle id v at;
          same = λ i below was is. (refl, home i (λ e. absurd (omega (arith, e, was))), refl);
          fresh = λ i was is. absurd (is was);
          free = λ i below held none'. absurd (let x = (old.holds i (before i held)).1 in omega (arith, x, none'));
          latched = λ i below held some'. ((old.holds i (before i held)).2, before i held);
          parts = record {
            holds = old.holds;
            taken = λ i first. let x = old.taken i first in (x.0, x.1, home i (λ e. absurd (omega (arith, e, first))) ∙ x.2);
            loaded = old.loaded;
            kept = old.kept;
            in_hand = in_hand;
            out = is_out;
            ever = old.ever;
          };
        }

    in_slots : (s : State (Option P) (View E)) → (log : List (Entry E)) (o : Owners) → PartsHold M log o s → slot_of k < length s.homes
    in_slots s log o kept = let d = kept.at_home.deep in omega (arith, d, lt)

    -- The slot that is out is given home empty, and the part stays in the hand.
    pub homes : stage v k ≡ 2 → v.out ≡ suc k → Allows (Rule M) slots id (v, (slot_of k, None) ∷ []) (latch_word k) (λ n. n) (Homes M v)
    homes two is_out s held deep at fits =
        let log = held.0 in
        let kept = (parts_of held.2) in
        let h : maybe.Option (Option P) = maybe.some None in (
          homed v,
          gives,
          tt,
          (
            log,
            held.1,
            subst (λ (ws : List ℕ). HallInvariant M log held.1 record { words = ws; homes = set s.homes (slot_of k) h; views = set s.views id (homed v) }) (sym (unset s.words (latch_word k)))
                (both (stirred M laws log held.1 held.1.part s s.words (set s.homes (slot_of k) h) id v (homed v) kept at live
                (shifting log held.1 s h 0 kept at two
                (λ i first away. by_cases i k (get_elem? (set s.homes (slot_of k) h) (slot_of i) ≡ maybe.some (maybe.some None))
                (λ e. subst (λ (x : ℕ). get_elem? (set s.homes (slot_of k) h) (slot_of x) ≡ maybe.some (maybe.some None)) (sym e) (set_here s.homes (slot_of k) h (in_slots s log held.1 kept)))
                (λ ne. set_else s.homes (slot_of k) (slot_of i) h (λ e. ne (omega (arith, e))) ∙ (kept.at_home.each id v at live).in_hand i first (λ e. ne (let x : suc i ≡ suc k = sym e ∙ is_out in omega (arith, x)))))
                (λ i e. absurd (omega (arith, e)))))
                (still_words M log held.1 s (set s.homes (slot_of k) h) id v (homed v) kept (words_of held.2) at live refl)),
          ),
          (refl, refl),
        )

    -- The empty slot of a part in the hand goes out again.
    pub draws : stage v k ≡ 2 → v.out ≡ 0 → Allows (Rule M) slots id (v, []) (latch_word k) (λ n. n) (Draws M v k)
    draws two none_out s held deep at fits =
        let log = held.0 in
        let kept = (parts_of held.2) in
        let h : maybe.Option (Option P) = maybe.none in (
          drawn v k,
          takes (slot_of k) None,
          (kept.at_home.each id v at live).in_hand k two (λ e. absurd (omega (arith, e, none_out))),
          (
            log,
            held.1,
            subst (λ (ws : List ℕ). HallInvariant M log held.1 record { words = ws; homes = set s.homes (slot_of k) h; views = set s.views id (drawn v k) }) (sym (unset s.words (latch_word k)))
                (both (stirred M laws log held.1 held.1.part s s.words (set s.homes (slot_of k) h) id v (drawn v k) kept at live
                (shifting log held.1 s h (suc k) kept at two
                (λ i first away.
                let ne : i ≢ k = λ e. away (ap suc (sym e)) in
                set_else s.homes (slot_of k) (slot_of i) h (λ e. ne (omega (arith, e))) ∙ (kept.at_home.each id v at live).in_hand i first (λ e. absurd (omega (arith, e, none_out))))
                (λ i e. let same : i ≡ k = omega (arith, e) in subst (λ (x : ℕ). stage v x ≡ 2) (sym same) two)))
                (still_words M log held.1 s (set s.homes (slot_of k) h) id v (drawn v k) kept (words_of held.2) at live refl)),
          ),
          (refl, refl),
        )

    -- The part goes home, and its latch is free.
    giving : (p : P) (log : List (Entry E)) (o : Owners) (s : State (Option P) (View E)) → PartsHold M log o s → WordsHold M log s → get_elem? s.views id ≡ maybe.some v
        → stage v k ≡ 2 → v.out ≡ suc k → slice_get (replay M v.log) k ≡ Some p → Stirs M log o o.part s (set s.words (latch_word k) 0) (set s.homes (slot_of k) (maybe.some (Some p))) id v (given v k)
    giving p log o s kept words at two is_out value =
        let h : maybe.Option (Option P) = maybe.some (Some p) in
        let old = kept.at_home.each id v at live in
        let here = stage_here v k 0 room in
        let wide : latch_word k < length s.words = let w = kept.at_home.wide in omega (arith, w, lt) in
        let zero' : slice_index (set s.words (latch_word k) 0) (latch_word k) ≡ 0 = get_or-set_same s.words (latch_word k) 0 0 wide in
        let word : (i : ℕ) → i ≢ k → slice_index (set s.words (latch_word k) 0) (latch_word i) ≡ slice_index s.words (latch_word i) = λ (i : ℕ) ne. get_or-set_other s.words (latch_word k) (latch_word i) 0 0 (λ e. ne (omega (arith, e))) in
        let else : (i : ℕ) → i ≢ k → stage (given v k) i ≡ stage v i = λ (i : ℕ) ne. stage_else v k 0 i ne in
        let home : (i : ℕ) → i ≢ k → get_elem? (set s.homes (slot_of k) h) (slot_of i) ≡ get_elem? s.homes (slot_of i) = λ (i : ℕ) ne. set_else s.homes (slot_of k) (slot_of i) h (λ e. ne (omega (arith, e))) in
        let apart : (i : ℕ) → stage (given v k) i ≢ 0 → i ≢ k = λ (i : ℕ) held e. held (ap (stage (given v k)) e ∙ here) in
        let before : (i : ℕ) → (stage v i ≢ 0) ⊎ (stage (given v k) i ≢ 0) → stage v i ≢ 0 = λ (i : ℕ) held. by_cases i k (stage v i ≢ 0)
        (λ e z. absurd (let x = subst (λ (y : ℕ). stage v y ≡ 0) e z in omega (arith, x, two))) (λ ne. ⊎_elim (λ a. a) (λ a e. a (else i ne ∙ e)) held) in
        record {
          lasts = refl;
          before = inl refl;
          live = live;
          seen = inl refl;
          counted = get_or-set_other s.words (latch_word k) 0 0 0 (λ e. absurd (omega (arith, e)));
          wide = length-set s.words (latch_word k) 0;
          deep = length-set s.homes (slot_of k) h;
          idle = λ none'. absurd (let z = kept.hands.idle id v at none' k in omega (arith, z, two));
          same = λ i below was is.
              let ne : i ≢ k = λ e. absurd (let x = subst (λ (y : ℕ). stage v y ≡ 0) e was in omega (arith, x, two)) in
              (word i ne, home i ne, refl);
          fresh = λ i was is. absurd (before i (inr is) was);
          free = λ i below held none'. by_cases i k (AtHome M log (set s.homes (slot_of k) h) i)
              (λ e. subst (AtHome M log (set s.homes (slot_of k) h)) (sym e)
              (p, (learns log o s id v kept words at live).parts k two ∙ value, set_here s.homes (slot_of k) h (in_slots s log o kept)))
              (λ ne. absurd (let x = (old.holds i (before i held)).1 in let y = word i ne in omega (arith, x, y, none')));
          latched = λ i below held some'. by_cases i k ((o.part i ≡ id) × (stage (given v k) i ≢ 0))
              (λ e. absurd (some' (ap (λ (x : ℕ). slice_index (set s.words (latch_word k) 0) (latch_word x)) e ∙ zero')))
              (λ ne. ((old.holds i (before i held)).2, (λ z. before i held (sym (else i ne) ∙ z))));
          parts = record {
            holds = λ i held. let x = old.holds i (before i (inr held)) in (x.0, word i (apart i held) ∙ x.1, x.2);
            taken = λ i first.
                let ne : i ≢ k = apart i (λ z. absurd (omega (arith, z, first))) in
                let x = old.taken i (sym (else i ne) ∙ first) in
                (x.0, x.1, home i ne ∙ x.2);
            loaded = λ i first. let ne : i ≢ k = apart i (λ z. absurd (omega (arith, z, first))) in old.loaded i (sym (else i ne) ∙ first);
            kept = λ i first. let ne : i ≢ k = apart i (λ z. absurd (omega (arith, z, first))) in old.kept i (sym (else i ne) ∙ first);
            in_hand = λ i first away.
                let ne : i ≢ k = apart i (λ z. absurd (omega (arith, z, first))) in
                home i ne ∙ old.in_hand i (sym (else i ne) ∙ first) (λ e. ne (let x : suc i ≡ suc k = sym e ∙ is_out in omega (arith, x)));
            out = λ i e. absurd (omega (arith, e));
            ever = λ i held. old.ever i (before i (inr held));
          };
        }

    -- The slot is given home with its part, and the latch is free again.
    pub gives_back : (p : P) → stage v k ≡ 2 → v.out ≡ suc k → slice_get (replay M v.log) k ≡ Some p → v.drained ≡ 0 → worn_by v k ≡ M.head p → Allows (Rule M) slots id (v, (slot_of k, Some p) ∷ []) (latch_word k) (λ _. 0) (λ _. Gives M v k 0)
    gives_back p two is_out value none_drained follows s held deep at fits =
        let log = held.0 in
        let kept = (parts_of held.2) in (
          given v k,
          gives,
          tt,
          (
            log,
            held.1,
            both (stirred M laws log held.1 held.1.part s (set s.words (latch_word k) 0) (set s.homes (slot_of k) (maybe.some (Some p))) id v (given v k) kept at live (giving p log held.1 s kept (words_of held.2) at two is_out value))
                (giving_words M log held.1 s (set s.homes (slot_of k) (maybe.some (Some p))) id v k kept (words_of held.2) at live lt room p two none_drained follows ((learns log held.1 s id v kept (words_of held.2) at live).parts k two ∙ value)),
          ),
          (refl, refl),
        )
