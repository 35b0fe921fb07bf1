-- The steps by which a part is taken and given leave what holds of the words of blocks.
use Rattle.std.proofs.Common.{◌≡◌, ◌≢◌, ℕ, ◌<◌, ◌≤◌, false, List, Option, Some, length, set, get_or-set_same, get_or-set_other, refl, sym, ap, subst, ◌∙◌, inl, ⊎_elim, length-set, arith}
use Rattle.std.specs.Prelude.{slice_get, slice_index}
use mathlib.Core.Option as maybe
use lib.ListN.{get_elem?}
use Rattle.atomic_table.specs.Table.{State}
use Rattle.hall_rule.specs.EventLog.{replay}
use Rattle.hall_rule.specs.HallInvariant.{Follows, Owners, WearsWords, block_word, head_at, latch_word, stage, worn_by}
use Rattle.hall_rule.specs.Heads.{IsFrozen, MayTurn, head_in}
use Rattle.hall_rule.specs.Meaning.{Meaning}
use Rattle.hall_rule.specs.Views.{given, loaded, staged}
use Rattle.hall_rule.specs.declared.view.Entry.{Entry}
use Rattle.hall_rule.specs.declared.view.View.{View}
use Rattle.hall_rule.proofs.Lists.{by_cases}
use Rattle.hall_rule.proofs.Moved.{Homes}
use Rattle.hall_rule.proofs.Words.{wears_so, worded}
use Rattle.hall_rule.proofs.Halves.{PartsHold, WordsHold}

-- what was found twice at one place is one
pub one_part : {P : Type 0} (s : List P) (k : ℕ) (p q : P) → slice_get s k ≡ Some p → slice_get s k ≡ Some q → p ≡ q
one_part s k p q a b = go p q (sym a ∙ b)
  where
    go : {A : Type 0} (p q : A) → Some p ≡ Some q → p ≡ q
    go p q e = cc

-- setting a latch leaves the words of blocks
pub blocks_stay : (words : List ℕ) (k n i : ℕ) → slice_index (set words (latch_word k) n) (block_word i) ≡ slice_index words (block_word i)
blocks_stay words k n i = get_or-set_other words (latch_word k) (block_word i) n 0 (λ e. absurd (omega (arith, e)))

module _ {P E T F : Type 0} (M : Meaning P E T F) (log : List (Entry E)) (o : Owners) (s : State (Option P) (View E)) (homes : Homes M) (id : ℕ) (v : View E) (k : ℕ)
    (kept : PartsHold M log o s) (b : WordsHold M log s) (at : get_elem? s.views id ≡ maybe.some v) (live : v.spent ≡ false) (lt : k < length M.start) (room : k < length v.stages) where
  old : WearsWords M log s.words id v
  old = b.words.each id v at live

  worn_room : k < length v.worn
  worn_room = let r = old.room in omega (arith, r, room)

  held_latched : (i : ℕ) → stage v i ≢ 0 → slice_index s.words (latch_word i) ≡ 1
  held_latched i held = ((kept.at_home.each id v at live).holds i held).1

  -- A latch that was free is taken.
  pub taken_words : slice_index s.words (latch_word k) ≡ 0 → stage v k ≡ 0 → WordsHold M log record { words = set s.words (latch_word k) 1; homes = homes; views = set s.views id (staged v k 1) }
  taken_words free away =
      let words : List ℕ = set s.words (latch_word k) 1 in
      let w : View E = staged v k 1 in
      let wide : latch_word k < length s.words = let n = kept.at_home.wide in omega (arith, n, lt) in
      let head : (i : ℕ) → head_at words i ≡ head_at s.words i = λ (i : ℕ). ap head_in (blocks_stay s.words k 1 i) in
      let here : stage w k ≡ 1 = get_or-set_same v.stages k 1 0 room in
      let else : (i : ℕ) → i ≢ k → stage w i ≡ stage v i = λ (i : ℕ) ne. get_or-set_other v.stages k i 1 0 ne in
      let one : slice_index words (latch_word k) ≡ 1 = get_or-set_same s.words (latch_word k) 1 0 wide in
      let word : (i : ℕ) → i ≢ k → slice_index words (latch_word i) ≡ slice_index s.words (latch_word i) = λ (i : ℕ) ne. get_or-set_other s.words (latch_word k) (latch_word i) 1 0 (λ e. ne (omega (arith, e))) in
      worded M log log o s words homes id v w kept b at live (wears_so M log s words id v w b at live (record {
        live = live;
        word = blocks_stay s.words k 1;
        latch = λ i below before now. word i (λ e. absurd (let h = subst (λ (x : ℕ). stage w x ≡ 0) e now in omega (arith, h, here)));
        free = λ i below held none'. by_cases i k (Follows M log words i)
            (λ e. absurd (let h = subst (λ (x : ℕ). slice_index words (latch_word x) ≡ 0) e none' in omega (arith, h, one)))
            (λ ne. absurd (let x = held_latched i (⊎_elim (λ a. a) (λ a e. a (else i ne ∙ e)) held) in let y = word i ne in omega (arith, x, y, none')));
        own = record {
          taken = λ i first. by_cases i k (Follows M log words i)
              (λ e. subst (Follows M log words) (sym e) (λ p is. head k ∙ b.words.free k lt free p is))
              (λ ne p is. head i ∙ old.taken i (sym (else i ne) ∙ first) p is);
          worn = λ i two. by_cases i k (head_at words i ≡ worn_by v i)
              (λ e. absurd (let h = subst (λ (x : ℕ). stage w x ≡ 2) e two in omega (arith, h, here)))
              (λ ne. head i ∙ old.worn i (sym (else i ne) ∙ two));
          near = λ i p two. by_cases i k (slice_get (replay M log) i ≡ Some p → MayTurn (worn_by v i) (M.head p))
              (λ e. absurd (let h = subst (λ (x : ℕ). stage w x ≡ 2) e two in omega (arith, h, here)))
              (λ ne. old.near i p (sym (else i ne) ∙ two));
          frozen = λ i p two. by_cases i k (IsFrozen (worn_by v i) → slice_get (replay M log) i ≡ Some p → M.head p ≡ worn_by v i)
              (λ e. absurd (let h = subst (λ (x : ℕ). stage w x ≡ 2) e two in omega (arith, h, here)))
              (λ ne. old.frozen i p (sym (else i ne) ∙ two));
          room = old.room ∙ sym (length-set v.stages k 1);
          stages = λ i. by_cases i k (stage w i ≤ 2) (λ e. let h = subst (λ (x : ℕ). stage w x ≡ 1) (sym e) here in omega (arith, h)) (λ ne. let h = else i ne in let l = old.stages i in omega (arith, h, l));
        };
        claim = refl;
        claimed = refl;
        bump = refl;
        sessions = refl;
        drained = λ i is.
            let d = b.drains.each id v at live i is in
            let ne : i ≢ k = λ e. absurd (let h = subst (λ (x : ℕ). stage v x ≡ 2) e d.held in omega (arith, h, away)) in
            (is, else i ne, refl);
      }))

  -- The event word is loaded behind the latch: from now on the pass knows the word's head.
  pub loading_words : (p : P) → stage v k ≡ 1 → slice_get (replay M log) k ≡ Some p → WordsHold M log record { words = s.words; homes = homes; views = set s.views id (loaded v k (M.head p) log) }
  loading_words p one there =
      let w : View E = loaded v k (M.head p) log in
      let here : stage w k ≡ 2 = get_or-set_same v.stages k 2 0 room in
      let else : (i : ℕ) → i ≢ k → stage w i ≡ stage v i = λ (i : ℕ) ne. get_or-set_other v.stages k i 2 0 ne in
      let worn_here : worn_by w k ≡ M.head p = get_or-set_same v.worn k (M.head p) 0 worn_room in
      let worn_else : (i : ℕ) → i ≢ k → worn_by w i ≡ worn_by v i = λ (i : ℕ) ne. get_or-set_other v.worn k i (M.head p) 0 ne in
      worded M log log o s s.words homes id v w kept b at live (wears_so M log s s.words id v w b at live (record {
        live = live;
        word = λ i. refl;
        latch = λ i below before now. refl;
        free = λ i below held none'. by_cases i k (Follows M log s.words i)
            (λ e. absurd (let x = held_latched k (λ z. absurd (omega (arith, z, one))) in let y = subst (λ (j : ℕ). slice_index s.words (latch_word j) ≡ 0) e none' in omega (arith, x, y)))
            (λ ne. absurd (let x = held_latched i (⊎_elim (λ a. a) (λ a e. a (else i ne ∙ e)) held) in omega (arith, x, none')));
        own = record {
          taken = λ i first. by_cases i k (Follows M log s.words i)
              (λ e. absurd (let h = subst (λ (x : ℕ). stage w x ≡ 1) e first in omega (arith, h, here)))
              (λ ne. old.taken i (sym (else i ne) ∙ first));
          worn = λ i two. by_cases i k (head_at s.words i ≡ worn_by w i)
              (λ e. subst (λ (x : ℕ). head_at s.words x ≡ worn_by w x) (sym e) (old.taken k one p there ∙ sym worn_here))
              (λ ne. old.worn i (sym (else i ne) ∙ two) ∙ sym (worn_else i ne));
          near = λ i p' two is. by_cases i k (MayTurn (worn_by w i) (M.head p'))
              (λ e. inl (ap M.head (one_part (replay M log) k p' p (subst (λ (x : ℕ). slice_get (replay M log) x ≡ Some p') e is) there) ∙ (sym worn_here ∙ ap (worn_by w) (sym e))))
              (λ ne. subst (λ (h : ℕ). MayTurn h (M.head p')) (sym (worn_else i ne)) (old.near i p' (sym (else i ne) ∙ two) is));
          frozen = λ i p' two frozen is. by_cases i k (M.head p' ≡ worn_by w i)
              (λ e. ap M.head (one_part (replay M log) k p' p (subst (λ (x : ℕ). slice_get (replay M log) x ≡ Some p') e is) there) ∙ (sym worn_here ∙ ap (worn_by w) (sym e)))
              (λ ne. old.frozen i p' (sym (else i ne) ∙ two) (subst IsFrozen (worn_else i ne) frozen) is ∙ sym (worn_else i ne));
          room = length-set v.worn k (M.head p) ∙ (old.room ∙ sym (length-set v.stages k 2));
          stages = λ i. by_cases i k (stage w i ≤ 2) (λ e. let h = subst (λ (x : ℕ). stage w x ≡ 2) (sym e) here in omega (arith, h)) (λ ne. let h = else i ne in let l = old.stages i in omega (arith, h, l));
        };
        claim = refl;
        claimed = refl;
        bump = refl;
        sessions = refl;
        drained = λ i is.
            let d = b.drains.each id v at live i is in
            let ne : i ≢ k = λ e. absurd (let h = subst (λ (x : ℕ). stage v x ≡ 2) e d.held in omega (arith, h, one)) in
            (is, else i ne, worn_else i ne);
      }))

  -- The part goes home, whose word follows it again, and its latch is free.
  pub giving_words : (p : P) → stage v k ≡ 2 → v.drained ≡ 0 → worn_by v k ≡ M.head p → slice_get (replay M log) k ≡ Some p → WordsHold M log record { words = set s.words (latch_word k) 0; homes = homes; views = set s.views id (given v k) }
  giving_words p two none_drained follows there =
      let words : List ℕ = set s.words (latch_word k) 0 in
      let w : View E = given v k in
      let head : (i : ℕ) → head_at words i ≡ head_at s.words i = λ (i : ℕ). ap head_in (blocks_stay s.words k 0 i) in
      let here : stage w k ≡ 0 = get_or-set_same v.stages k 0 0 room in
      let else : (i : ℕ) → i ≢ k → stage w i ≡ stage v i = λ (i : ℕ) ne. get_or-set_other v.stages k i 0 0 ne in
      let word : (i : ℕ) → i ≢ k → slice_index words (latch_word i) ≡ slice_index s.words (latch_word i) = λ (i : ℕ) ne. get_or-set_other s.words (latch_word k) (latch_word i) 0 0 (λ e. ne (omega (arith, e))) in
      let away : (i : ℕ) → stage w i ≢ 0 → i ≢ k = λ (i : ℕ) held e. held (ap (stage w) e ∙ here) in
      worded M log log o s words homes id v w kept b at live (wears_so M log s words id v w b at live (record {
        live = live;
        word = blocks_stay s.words k 0;
        latch = λ i below before now. word i (λ e. absurd (let h = subst (λ (x : ℕ). stage v x ≡ 0) e before in omega (arith, h, two)));
        free = λ i below held none'. by_cases i k (Follows M log words i)
            (λ e. subst (Follows M log words) (sym e) (λ p' is. head k ∙ (old.worn k two ∙ (follows ∙ ap M.head (one_part (replay M log) k p p' there is)))))
            (λ ne. absurd (let x = held_latched i (⊎_elim (λ a. a) (λ a e. a (else i ne ∙ e)) held) in let y = word i ne in omega (arith, x, y, none')));
        own = record {
          taken = λ i first p' is. let ne : i ≢ k = away i (λ z. absurd (omega (arith, z, first))) in head i ∙ old.taken i (sym (else i ne) ∙ first) p' is;
          worn = λ i first. let ne : i ≢ k = away i (λ z. absurd (omega (arith, z, first))) in head i ∙ old.worn i (sym (else i ne) ∙ first);
          near = λ i p' first. let ne : i ≢ k = away i (λ z. absurd (omega (arith, z, first))) in old.near i p' (sym (else i ne) ∙ first);
          frozen = λ i p' first. let ne : i ≢ k = away i (λ z. absurd (omega (arith, z, first))) in old.frozen i p' (sym (else i ne) ∙ first);
          room = old.room ∙ sym (length-set v.stages k 0);
          stages = λ i. by_cases i k (stage w i ≤ 2) (λ e. let h = subst (λ (x : ℕ). stage w x ≡ 0) (sym e) here in omega (arith, h)) (λ ne. let h = else i ne in let l = old.stages i in omega (arith, h, l));
        };
        claim = refl;
        claimed = refl;
        bump = refl;
        sessions = refl;
        drained = λ i is. absurd (omega (arith, is, none_drained));
      }))

-- Steps that change nothing but what is out, or how much was seen.
module _ {P E T F : Type 0} (M : Meaning P E T F) (log : List (Entry E)) (o : Owners) (s : State (Option P) (View E)) (homes : Homes M) (id : ℕ) (v w : View E)
    (kept : PartsHold M log o s) (b : WordsHold M log s) (at : get_elem? s.views id ≡ maybe.some v) (live : v.spent ≡ false)
    (same : record v { log = w.log; looks = w.looks; before = w.before; out = w.out } ≡ w) where
  abbrev Wears' : View E → Type 0
  Wears' x = WordsHold M log record { words = s.words; homes = homes; views = set s.views id x }

  pub still_words : Wears' w
  still_words =
      let x : View E = record v { log = w.log; looks = w.looks; before = w.before; out = w.out } in
      let old = b.words.each id v at live in
      subst Wears' same
      (worded M log log o s s.words homes id v x kept b at live (wears_so M log s s.words id v x b at live (record {
        live = live;
        word = λ i. refl;
        latch = λ i below before now. refl;
        free = λ i below held none'. absurd (let y = ((kept.at_home.each id v at live).holds i (⊎_elim (λ a. a) (λ a. a) held)).1 in omega (arith, y, none'));
        own = record { taken = old.taken; worn = old.worn; near = old.near; frozen = old.frozen; room = old.room; stages = old.stages };
        claim = refl;
        claimed = refl;
        bump = refl;
        sessions = refl;
        drained = λ i is. (is, refl, refl);
      })))
