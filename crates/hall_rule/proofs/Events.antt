-- An event keeps the invariant: what was lawful by what a pass knew is lawful where it is made.
use Rattle.std.proofs.Common.{◌≡◌, ◌≢◌, ℕ, suc, ◌+◌, ◌*◌, ◌%◌, ◌^◌, ◌<◌, true, false, List, [], ◌∷◌, ◌++◌, Option, Some, length, set, get_or-set_same, get_or-set_other, refl, sym, ap, subst, ◌∙◌, inl, inr, ⊎_elim, true≢false, length-append, length-set, mod-eq_of_lt, arith}
use Rattle.std.specs.Prelude.{slice_get, slice_index}
use mathlib.Core.Option as maybe
use lib.ListN.{get_elem?}
use Rattle.atomic_table.specs.Table.{Allows, State}
use Rattle.atomic_table.specs.Table.Act.{keeps}
use Rattle.atomic_table.proofs.Lists.{set_here}
use Rattle.hall_rule.specs.EventLog.{LawfulFrom, Spares, Untouched, after, has, own, replay}
use Rattle.hall_rule.specs.HallInvariant.{HallInvariant, Owners, block_word, hands_of, latch_word, stage, worn_by}
use Rattle.hall_rule.specs.Rule.{Rule}
use Rattle.hall_rule.specs.Hands.{Agrees, Covers, Holds}
use Rattle.hall_rule.specs.Meaning.{Laws, Meaning}
use Rattle.hall_rule.specs.Views.{Adds, Learned, Sees, added, looked}
use Rattle.hall_rule.specs.declared.view.Entry.{Entry}
use Rattle.hall_rule.specs.declared.view.View.{View}
use Rattle.hall_rule.proofs.EventWords.{event_words}
use Rattle.hall_rule.proofs.LatchWords.{still_words}
use Rattle.hall_rule.proofs.Latches.{learns, unset}
use Rattle.hall_rule.proofs.Lists.{at_below, bounded}
use Rattle.hall_rule.proofs.Logs.{after_is, goes_on_whole, has_head, lawful_append, own_all, own_append, replay_append, since_whole}
use Rattle.hall_rule.proofs.Moved.{Moves, moved}
use Rattle.hall_rule.proofs.Quiet.{stirred}
use Rattle.hall_rule.proofs.Halves.{PartsHold, WordsHold, both, parts_of, words_of}

module _ {P E T F : Type 0} (M : Meaning P E T F) (laws : Laws M) where
  -- The event word never wraps.
  pub never_wraps : (log : List (Entry E)) (o : Owners) (s : State (Option P) (View E)) → PartsHold M log o s → length log + 1 < 2 ^ 64
  never_wraps log o s kept =
      let b = bounded s.views kept.hands.few in
      let h = kept.hands.handed in
      let l = kept.hands.limit in
      let e = kept.hands.entries in
      omega (arith, b, h, l, e)

  -- What an event of a pass asks, by what the pass knows: its parts are in the hand, it is lawful
  -- by the pass's log, and of its sessions.
  pub record Asks (hand : List (Option P)) (v : View E) (event : E) : Type 0 where
    pub covers : Covers (M.touching event) hand
    pub agrees : Agrees hand (replay M v.log)
    pub stands : M.stands event (replay M v.log)
    pub fits : M.fits event (replay M v.log)
    pub names : (q : ℕ) → M.names event ≡ Some q → has q v.sessions ≡ true
    -- a block that it thaws was drained, and the words of all others that are held follow them
    pub drained : (k : ℕ) → M.thaws event ≡ Some k → v.drained ≡ suc k
    pub follows : (k : ℕ) (p : P) → (M.thaws event ≡ Some k → ⊥) → stage v k ≡ 2 → slice_get (replay M v.log) k ≡ Some p → worn_by v k ≡ M.head p

  -- It is lawful by every later log that the pass can see.
  pub stays_lawful : (id : ℕ) (hand : List (Option P)) (v : View E) (event : E) (log : List (Entry E)) → M.sound (replay M v.log) → length (replay M v.log) ≡ length M.start
      → Asks hand v event → ((k : ℕ) → Holds hand k → stage v k ≡ 2) → Learned M id v log → Agrees hand (replay M log) × M.stands event (replay M log) × M.fits event (replay M log)
  stays_lawful id hand v event log ok room asks held new =
      let agrees : Agrees hand (replay M log) = (asks.agrees.0 ∙ (room ∙ sym new.room), λ k p at. new.parts k (held k (p, at)) ∙ asks.agrees.1 k p at) in (
        agrees,
        laws.depends event (replay M v.log) (replay M log) ok new.sound (λ q is. new.transactions q (asks.names q is)) new.facts asks.stands,
        laws.local event hand (replay M v.log) (replay M log) ok new.sound asks.covers asks.agrees agrees asks.stands asks.fits,
      )

  module _ (slots id : ℕ) (v : View E) (live : v.spent ≡ false) (hand : List (Option P)) (e : Entry E) (pass : e.pass ≡ id) (under : has e.session v.sessions ≡ true) (asks : Asks hand v e.event) (may : e.refused ≡ true → M.takes_memory e.event ≡ true)
      (held : (k : ℕ) → Holds hand k → stage v k ≡ 2) (none_out : v.out ≡ 0) (few : length v.mine < 2 ^ 56 * hands_of v)
      (ok : M.sound (replay M v.log)) (room : length (replay M v.log) ≡ length M.start) where
    module _ (log : List (Entry E)) (o : Owners) (s : State (Option P) (View E)) (kept : PartsHold M log o s) (words : WordsHold M log s) (at : get_elem? s.views id ≡ maybe.some v) where
      new : Learned M id v log
      new = learns M laws log o s id v kept words at live

      still : Agrees hand (replay M log) × M.stands e.event (replay M log) × M.fits e.event (replay M log)
      still = stays_lawful id hand v e.event log ok room asks held new

      -- a part that is not in the hand is as it was
      left : (k : ℕ) → stage v k ≢ 2 → slice_get (after M e (replay M log)) k ≡ slice_get (replay M log) k
      left k away = after_is M (λ (t : List P). slice_get t k ≡ slice_get (replay M log) k) e (replay M log) refl
          (laws.frame e.event hand (replay M log) new.sound asks.covers still.0 still.1 still.2 k (λ h. away (held k h)))

      ending : (ws : List ℕ) → slice_index ws 0 ≡ length log + 1 → length ws ≡ length s.words → ((i : ℕ) → slice_index ws (latch_word i) ≡ slice_index s.words (latch_word i))
          → Moves M log (e ∷ []) o o.part s ws s.homes id v (added v log e)
      ending ws counted wide word =
          let old = kept.at_home.each id v at live in
          let n : length (log ++ e ∷ []) ≡ length log + 1 = length-append log (e ∷ []) in
          let both : LawfulFrom M M.start (log ++ e ∷ []) = lawful_append M M.start log (e ∷ []) kept.lawful.lawful (still.1, still.2, may, tt) in
          record {
            joined = refl;
            sessions = refl;
            before = goes_on_whole (added v log e) (log ++ e ∷ []) refl;
            heard = refl;
            live = live;
            by = (pass, tt);
            names = (asks.names, tt);
            under = (under, tt);
            sole = refl;
            lawful = both;
            goes_on = goes_on_whole (added v log e) (log ++ e ∷ []) refl;
            mine = refl;
            made = refl;
            seen = own_append (id ∷ v.joined) log (e ∷ []) ∙ (ap (λ (x : List (Entry E)). x ++ own (id ∷ v.joined) (e ∷ [])) new.mine ∙ ap (λ (x : List (Entry E)). v.mine ++ x) (own_all (id ∷ v.joined) id (e ∷ []) (has_head id v.joined) (pass, tt)));
            few = let f = few in omega (arith, f);
            spared = λ q h. subst (Spares M q) (sym (since_whole (added v log e) (log ++ e ∷ []) refl)) tt;
            stood = λ q was h. subst (Spares M q) (sym (since_whole (added v log e) (log ++ e ∷ []) refl)) tt;
            came = λ q none' h. absurd (true≢false (sym none'));
            counted = counted ∙ sym n;
            wide = wide;
            deep = refl;
            idle = kept.hands.idle id v at;
            same = λ k below was is. (word k, refl, refl);
            fresh = λ k was is. absurd (is was);
            untouched = λ k was. (left k (λ two. absurd (omega (arith, two, was))), tt);
            free = λ k below either' none'.
                let h : stage v k ≢ 0 = ⊎_elim (λ a. a) (λ a. a) either' in
                let x = (old.holds k h).1 in let y = word k in absurd (omega (arith, x, y, none'));
            latched = λ k below either' some'. let h : stage v k ≢ 0 = ⊎_elim (λ a. a) (λ a. a) either' in ((old.holds k h).2, h);
            parts = record {
              holds = λ k h. let x = old.holds k h in (x.0, word k ∙ x.1, x.2);
              taken = λ k one. let x = old.taken k one in (x.0, ap (λ (t : List P). slice_get t k) (replay_append M M.start log (e ∷ [])) ∙ (left k (λ two. absurd (omega (arith, one, two))) ∙ x.1), x.2);
              loaded = λ k two. subst (Untouched M k (replay M (log ++ e ∷ []))) (sym (since_whole (added v log e) (log ++ e ∷ []) refl)) tt;
              kept = λ k two. subst (Untouched M k (replay M (log ++ e ∷ []))) (sym (since_whole (added v log e) (log ++ e ∷ []) refl)) tt;
              in_hand = old.in_hand;
              out = old.out;
              ever = old.ever;
            };
          }

    -- An event of a pass, with its parts in the hand, adds an entry to the log and keeps the
    -- invariant.
    pub adds : Allows (Rule M) slots id (v, []) 0 (λ n. (n + 1) % 2 ^ 64) (Adds M id v e)
    adds s kept deep at fits =
        let log = kept.0 in
        let n : ℕ = slice_index s.words 0 in
        let counted : n ≡ length log = (parts_of kept.2).one_log.counted in
        let small = never_wraps log kept.1 s (parts_of kept.2) in
        let next : (n + 1) % 2 ^ 64 ≡ length log + 1 = mod-eq_of_lt (let c : n + 1 < 2 ^ 64 = omega (arith, counted, small) in c) ∙ ap (λ (m : ℕ). m + 1) counted in
        let wide : 0 < length s.words = let w = (parts_of kept.2).at_home.wide in omega (arith, w) in
        let w : View E = added v log e in
        let words : WordsHold M (log ++ e ∷ []) record { words = set s.words 0 ((n + 1) % 2 ^ 64); homes = s.homes; views = set s.views id w } =
        event_words M laws log kept.1 s (set s.words 0 ((n + 1) % 2 ^ 64)) s.homes id v e (parts_of kept.2) (words_of kept.2) at live (new log kept.1 s (parts_of kept.2) (words_of kept.2) at).sound (still log kept.1 s (parts_of kept.2) (words_of kept.2) at).1 (still log kept.1 s (parts_of kept.2) (words_of kept.2) at).2 (new log kept.1 s (parts_of kept.2) (words_of kept.2) at).room
        (left log kept.1 s (parts_of kept.2) (words_of kept.2) at) asks.drained
        (λ k p unthawed two is. asks.follows k p unthawed two (sym ((new log kept.1 s (parts_of kept.2) (words_of kept.2) at).parts k two) ∙ is))
        (λ i. get_or-set_other s.words 0 (block_word i) ((n + 1) % 2 ^ 64) 0 (λ x. absurd (omega (arith, x)))) (λ i. get_or-set_other s.words 0 (latch_word i) ((n + 1) % 2 ^ 64) 0 (λ x. absurd (omega (arith, x)))) in
        let there : get_elem? (set s.views id w) id ≡ maybe.some w = set_here s.views id w (at_below s.views id v at) in (
          added v log e,
          keeps,
          tt,
          (
            log ++ e ∷ [],
            kept.1,
            both (moved M log (e ∷ []) kept.1 kept.1.part s (set s.words 0 ((n + 1) % 2 ^ 64)) s.homes id v (added v log e) (parts_of kept.2) at live
                (ending log kept.1 s (parts_of kept.2) (words_of kept.2) at (set s.words 0 ((n + 1) % 2 ^ 64)) (get_or-set_same s.words 0 ((n + 1) % 2 ^ 64) 0 wide ∙ next) (length-set s.words 0 ((n + 1) % 2 ^ 64)) (λ i. get_or-set_other s.words 0 (latch_word i) ((n + 1) % 2 ^ 64) 0 (λ x. absurd (omega (arith, x))))) laws)
                words,
          ),
          (log, new log kept.1 s (parts_of kept.2) (words_of kept.2) at, refl, refl, (λ k p is value. (words.claims.each id w there k is).imaged p value), counted),
        )

  -- A load of the event word, by which the pass sees the whole log.
  pub sees : (slots id : ℕ) (v : View E) → v.spent ≡ false → Allows (Rule M) slots id (v, []) 0 (λ n. n) (Sees M id v)
  sees slots id v live s kept deep at fits =
      let log = kept.0 in
      let w : View E = looked v log in
      let old = (parts_of kept.2).at_home.each id v at live in (
        w,
        keeps,
        tt,
        (
          log,
          kept.1,
          subst (λ (ws : List ℕ). HallInvariant M log kept.1 record { words = ws; homes = s.homes; views = set s.views id w }) (sym (unset s.words 0))
              (both (stirred M laws log kept.1 kept.1.part s s.words s.homes id v w (parts_of kept.2) at live (record {
                lasts = refl;
                before = inl refl;
                live = live;
                seen = inr refl;
                counted = refl;
                wide = refl;
                deep = refl;
                idle = (parts_of kept.2).hands.idle id v at;
                same = λ k below was is. (refl, refl, refl);
                fresh = λ k was is. absurd (is was);
                free = λ k below either' none'. let h : stage v k ≢ 0 = ⊎_elim (λ a. a) (λ a. a) either' in let x = (old.holds k h).1 in absurd (omega (arith, x, none'));
                latched = λ k below either' some'. let h : stage v k ≢ 0 = ⊎_elim (λ a. a) (λ a. a) either' in ((old.holds k h).2, h);
                parts = record {
                  holds = old.holds;
                  taken = old.taken;
                  loaded = λ k two. subst (Untouched M k (replay M log)) (sym (since_whole w log refl)) tt;
                  kept = old.kept;
                  in_hand = old.in_hand;
                  out = old.out;
                  ever = old.ever;
                };
              }))
              (still_words M log kept.1 s s.homes id v w (parts_of kept.2) (words_of kept.2) at live refl)),
        ),
        (log, learns M laws log kept.1 s id v (parts_of kept.2) (words_of kept.2) at live, refl, refl, (parts_of kept.2).one_log.counted),
      )
