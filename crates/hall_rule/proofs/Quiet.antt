-- The steps that make no event, and what becomes of one part by them.
use Rattle.std.proofs.Common.{◌≡◌, ◌≢◌, ℕ, ◌+◌, ◌<◌, true, false, List, [], ◌∷◌, ◌++◌, Option, length, sym, ap, subst, ◌∙◌, ◌⊎◌, ⊎_elim, append-nil, arith}
use Rattle.std.specs.Prelude.{slice_index}
use mathlib.Core.Option as maybe
use lib.ListN.{get_elem?}
use Rattle.atomic_table.specs.Table.{State}
use Rattle.hall_rule.specs.EventLog.{LawfulFrom, Spares, has, own}
use Rattle.hall_rule.specs.HallInvariant.{AtHome, GoesOn, HoldsParts, Owners, OwnsSessions, hands_of, latch_word, since, stage}
use Rattle.hall_rule.specs.Meaning.{Laws, Meaning}
use Rattle.hall_rule.specs.Slots.{slot_of}
use Rattle.hall_rule.specs.declared.view.Entry.{Entry}
use Rattle.hall_rule.specs.declared.view.View.{View}
use Rattle.hall_rule.proofs.Logs.{goes_on_whole, rest_is, since_whole}
use Rattle.hall_rule.proofs.Moved.{Homes, Moves, after_move, moved, with_parts}
use Rattle.hall_rule.proofs.Halves.{PartsHold}

-- What every step that makes no event leaves of a view as it was.
abbrev pub lasting : {E : Type 0} → View E → View E
lasting v = record v { log = []; looks = 0; before = []; stages = []; out = 0; taken = []; worn = []; drained = 0; claim = 0; claimed = 0; bump = 0; found = []; spent = false }

module _ {P E T F : Type 0} (M : Meaning P E T F) where
  -- What a step owes that makes no event: the view's log stays, or becomes the whole log.
  pub record Stirs (log : List (Entry E)) (o : Owners) (part : ℕ → ℕ) (s : State (Option P) (View E)) (words : List ℕ) (homes : Homes M) (id : ℕ) (v w : View E) : Type 0 where
    pub lasts : lasting w ≡ lasting v
    pub before : (w.before ≡ v.before) ⊎ (w.before ≡ log)
    pub live : w.spent ≡ false
    pub seen : (w.log ≡ v.log) ⊎ (w.log ≡ log)
    pub counted : slice_index words 0 ≡ slice_index s.words 0
    pub wide : length words ≡ length s.words
    pub deep : length homes ≡ length s.homes
    pub idle : hands_of v ≡ 0 → (k : ℕ) → stage w k ≡ 0
    pub same : (k : ℕ) → k < length M.start → stage v k ≡ 0 → stage w k ≡ 0 → (slice_index words (latch_word k) ≡ slice_index s.words (latch_word k)) × (get_elem? homes (slot_of k) ≡ get_elem? s.homes (slot_of k)) × (part k ≡ o.part k)
    pub fresh : (k : ℕ) → stage v k ≡ 0 → stage w k ≢ 0 → slice_index s.words (latch_word k) ≡ 0
    pub free : (k : ℕ) → k < length M.start → (stage v k ≢ 0) ⊎ (stage w k ≢ 0) → slice_index words (latch_word k) ≡ 0 → AtHome M log homes k
    pub latched : (k : ℕ) → k < length M.start → (stage v k ≢ 0) ⊎ (stage w k ≢ 0) → slice_index words (latch_word k) ≢ 0 → (part k ≡ id) × (stage w k ≢ 0)
    pub parts : HoldsParts M log part words homes id w

  module _ (laws : Laws M) (log : List (Entry E)) (o : Owners) (part : ℕ → ℕ) (s : State (Option P) (View E)) (words : List ℕ) (homes : Homes M) (id : ℕ) (v w : View E)
      (kept : PartsHold M log o s) (at : get_elem? s.views id ≡ maybe.some v) (live : v.spent ≡ false) (q : Stirs log o part s words homes id v w) where
    goes_on : GoesOn w log
    goes_on = ⊎_elim
        (λ e. subst (λ l. log ≡ l ++ Rattle.std.proofs.Common.drop (length l) log) (sym e) (kept.one_log.each id v at live).goes_on)
        (λ e. goes_on_whole w log e) q.seen

    before : log ≡ w.before ++ Rattle.std.proofs.Common.drop (length w.before) log
    before = ⊎_elim
        (λ e. subst (λ l. log ≡ l ++ Rattle.std.proofs.Common.drop (length l) log) (sym e) (kept.one_log.each id v at live).before)
        (λ e. (sym e ∙ sym (append-nil w.before)) ∙ ap (λ l. w.before ++ l) (sym (rest_is w.before [] log (sym e ∙ sym (append-nil w.before))))) q.before

    seen : own (id ∷ v.joined) w.log ≡ v.mine ++ []
    seen = ⊎_elim
        (λ e. ap (own (id ∷ v.joined)) e ∙ ((kept.one_log.each id v at live).seen ∙ sym (append-nil v.mine)))
        (λ e. ap (own (id ∷ v.joined)) e ∙ ((kept.one_log.each id v at live).mine ∙ sym (append-nil v.mine))) q.seen

    spared : (x : ℕ) → has x v.sessions ≡ true → Spares M x (since w log)
    spared x h = ⊎_elim
        (λ e. subst (λ l. Spares M x (Rattle.std.proofs.Common.drop (length l) log)) (sym e) ((kept.lawful.each id v at live).spared x h))
        (λ e. subst (Spares M x) (sym (since_whole w log e)) tt) q.seen

    sessions : OwnsSessions M log o.session id v
    sessions = kept.lawful.each id v at live

    stood : (x : ℕ) → has x w.stood ≡ true → has x v.sessions ≡ true → Spares M x (Rattle.std.proofs.Common.drop (length w.before) log)
    stood x was h = ⊎_elim
        (λ e. subst (λ l. Spares M x (Rattle.std.proofs.Common.drop (length l) log)) (sym e) (sessions.stood x (subst (λ (u : View E). has x u.stood ≡ true) q.lasts was) h))
        (λ e. subst (Spares M x) (sym (rest_is w.before [] log (sym e ∙ sym (append-nil w.before)))) tt) q.before

    came : (x : ℕ) → has x w.came ≡ true → has x v.sessions ≡ true → Spares M x (Rattle.std.proofs.Common.drop (length w.heard) log)
    came x was h = subst (λ l. Spares M x (Rattle.std.proofs.Common.drop (length l) log)) (sym (ap (λ (u : View E). u.heard) q.lasts)) (sessions.came x (subst (λ (u : View E). has x u.came ≡ true) q.lasts was) h)

    owed : Moves M log [] o part s words homes id v w
    owed =
        let nil : log ++ [] ≡ log = append-nil log in
        record {
          joined = ap (λ (u : View E). u.joined) q.lasts;
          sessions = ap (λ (u : View E). u.sessions) q.lasts;
          before = subst (λ l. l ≡ w.before ++ Rattle.std.proofs.Common.drop (length w.before) l) (sym nil) before;
          heard = ap (λ (u : View E). u.heard) q.lasts;
          live = q.live;
          by = tt;
          names = tt;
          under = tt;
          sole = ap (λ (u : View E). u.sole) q.lasts;
          lawful = subst (LawfulFrom M M.start) (sym nil) kept.lawful.lawful;
          goes_on = subst (GoesOn w) (sym nil) goes_on;
          mine = ap (λ (u : View E). u.mine) q.lasts ∙ sym (append-nil v.mine);
          made = let d = ap (λ (u : View E). u.made) q.lasts in omega (arith, d);
          seen = seen;
          few = let f = kept.hands.few id v at in omega (arith, f);
          spared = λ x h. subst (λ l. Spares M x (since w l)) (sym nil) (spared x h);
          stood = λ x was h. subst (λ l. Spares M x (Rattle.std.proofs.Common.drop (length w.before) l)) (sym nil) (stood x was h);
          came = λ x was h. subst (λ l. Spares M x (Rattle.std.proofs.Common.drop (length w.heard) l)) (sym nil) (came x was h);
          counted = q.counted ∙ (kept.one_log.counted ∙ ap length (sym nil));
          wide = q.wide;
          deep = q.deep;
          idle = q.idle;
          same = q.same;
          fresh = q.fresh;
          untouched = λ k none'. tt;
          free = λ k lt held zero'. subst (λ l. AtHome M l homes k) (sym nil) (q.free k lt held zero');
          latched = q.latched;
          parts = subst (λ l. HoldsParts M l part words homes id w) (sym nil) q.parts;
        }

    -- A step that makes no event keeps the invariant.
    pub stirred : PartsHold M log (with_parts M o part) (after_move M log [] o part s words homes id v w)
    stirred = subst (λ l. PartsHold M l (with_parts M o part) (after_move M log [] o part s words homes id v w)) (append-nil log) (moved M log [] o part s words homes id v w kept at live owed laws)
