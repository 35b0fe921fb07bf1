-- What a pass knows after a take, a give and an event.
use Rattle.std.proofs.Common.{◌≡◌, ◌≢◌, ℕ, zero, suc, ◌+◌, ◌*◌, ◌^◌, ◌<◌, Bool, true, false, cond, List, [], ◌∷◌, ◌++◌, Option, None, Some, length, set, get_or-set_same, get_or-set_other, refl, sym, ap, subst, ◌∙◌, ◌⊎◌, inl, inr, ⊎_elim, length-set, length-append, arith}
use Rattle.std.specs.Prelude.{MatchBool, slice_get, slice_index}
use Rattle.std.proofs.lemmas.Option.{slice_get_within}
use Rattle.atomic_table.specs.Table.{Me}
use Rattle.hall_rule.specs.EventLog.{after, has, own, replay}
use Rattle.hall_rule.specs.HallInvariant.{hands_of, stage, worn_by}
use Rattle.hall_rule.specs.Hands.{Agrees, Holds, SameRoom}
use Rattle.hall_rule.specs.Meaning.{Laws, Meaning}
use Rattle.hall_rule.specs.Views.{KeepsClaim, Learned, added, given, homed, loaded, staged}
use Rattle.hall_rule.specs.declared.view.Entry.{Entry}
use Rattle.hall_rule.specs.declared.view.View.{View}
use Rattle.hall_rule.proofs.EventWords.{there_is}
use Rattle.hall_rule.proofs.Events.{Asks, stays_lawful}
use Rattle.hall_rule.proofs.Latches.{stage_else, stage_here}
use Rattle.hall_rule.proofs.Lists.{by_cases, get_set_else, get_set_here}
use Rattle.hall_rule.proofs.Named.{named_append, only_append, only_mine}
use Rattle.hall_rule.proofs.Logs.{after_is, has_head, lawful_append, own_all, own_append, replay_append}
use Rattle.atomic_table.specs.Seated.{TableId}
use Rattle.atomic_table.specs.declared.shared.Seat.{Seat}
use Rattle.hall_rule.specs.Heads.{IsHot, MayTurn, TurnsOn}
use Rattle.hall_steps.specs.Hall.{EndsWith, Extends, IsOf, IsSameSeat, Knows, Looks, LooksOn, Settled, thawed_by}

module _ {A : Type 0} where
  -- what two `Some` hold is the same
  pub some_is : (a b : A) → Some a ≡ Some b → a ≡ b
  some_is a b e = cc

  -- what is there is not nothing
  pub not_none : (a : A) (Q : Type 0) → Some a ≡ None → Q
  not_none a Q e = absurd (cc)

module _ {P : Type 0} where
  -- a part lies in its place, or the place is empty
  pub place : (h : List (Option P)) (k : ℕ) → k < length h → (slice_get h k ≡ Some None) ⊎ Holds h k
  place [] k lt = absurd (omega (arith, lt))
  place (None ∷ hs) zero lt = inl refl
  place (Some p ∷ hs) zero lt = inr (p, refl)
  place (h ∷ hs) (suc k) lt = place hs k (omega (arith, lt))

  -- where two hands have the same parts, the later holds what the earlier does
  pub same_holds : (g h : List (Option P)) → SameRoom g h → (k : ℕ) → Holds h k → Holds g k
  same_holds g h same k held =
      let lt = slice_get_within h k (Some held.0) held.1 in
      let n = same.places in
      ⊎_elim (λ e. not_none held.0 (Holds g k) (some_is (Some held.0) None (sym held.1 ∙ same.away k e))) (λ x. x) (place g k (omega (arith, lt, n)))

module _ {P E T F : Type 0} (M : Meaning P E T F) where
  -- what is learned by a pass that has a latch besides
  pub less : (id : ℕ) (v : View E) (k : ℕ) (log : List (Entry E)) → stage v k ≡ 0 → Learned M id (staged v k 1) log → Learned M id v log
  less id v k log away l = record {
    goes_on = l.goes_on;
    before = l.before;
    heard = l.heard;
    kept = λ i two. l.kept i (stage_else v k 1 i (λ e. absurd (let h = subst (λ (x : ℕ). stage v x ≡ 2) e two in omega (arith, h, away))) ∙ two);
    few_hands = l.few_hands;
    begins = l.begins;
    mine = l.mine;
    total = l.total;
    sound = l.sound;
    lawful = l.lawful;
    spared = l.spared;
    parts = λ i two. l.parts i (stage_else v k 1 i (λ e. absurd (let h = subst (λ (x : ℕ). stage v x ≡ 2) e two in omega (arith, h, away))) ∙ two);
    transactions = l.transactions;
    distinct = l.distinct;
    facts = l.facts;
    room = l.room;
    stood = l.stood;
    came = l.came;
    few = l.few;
    budget = l.budget;
    limit = l.limit;
    tied = l.tied;
    imaged = l.imaged;
  }

  -- a part came into the hand
  pub took : (id : ℕ) (v : View E) (hand : List (Option P)) (k : ℕ) (p : P) (log : List (Entry E)) → Knows M id (v, []) hand → k < length M.start → slice_get hand k ≡ Some None
      → Learned M id (staged v k 1) log → slice_get (replay M log) k ≡ Some p → Knows M id (homed (loaded (staged v k 1) k (M.head p) log), []) (set hand k (Some p)) × LooksOn M id v (homed (loaded (staged v k 1) k (M.head p) log))
  took id v hand k p log knows lt none' l value =
      let away : stage v k ≡ 0 = knows.away k (λ h. not_none h.0 ⊥ (some_is (Some h.0) None (sym h.1 ∙ none'))) in
      let new = less id v k log away l in
      let w : View E = homed (loaded (staged v k 1) k (M.head p) log) in
      let n = knows.stages in
      let room1 : k < length v.stages = omega (arith, n, lt) in
      let room2 : k < length (set v.stages k 1) = let m : length (set v.stages k 1) ≡ length v.stages = length-set v.stages k 1 in omega (arith, m, room1) in
      let here : stage w k ≡ 2 = stage_here (staged v k 1) k 2 room2 in
      let else : (i : ℕ) → i ≢ k → stage w i ≡ stage v i = λ (i : ℕ) ne. stage_else (staged v k 1) k 2 i ne ∙ stage_else v k 1 i ne in
      let in_hand : k < length hand = slice_get_within hand k None none' in (
        record {
          none_out = refl;
          home = refl;
          live = knows.live;
          stages = length-set (set v.stages k 1) k 2 ∙ (length-set v.stages k 1 ∙ knows.stages);
          begins = l.begins;
          few_hands = l.few_hands;
          sound = l.sound;
          lawful = l.lawful;
          mine = l.mine;
          total = l.total;
          distinct = l.distinct;
          room = l.room;
          agrees = λ i q e. by_cases i k (slice_get (replay M log) i ≡ Some q)
              (λ same.
              let f : slice_get (set hand k (Some p)) k ≡ Some (Some q) = subst (λ (x : ℕ). slice_get (set hand k (Some p)) x ≡ Some (Some q)) same e in
              let r : Some p ≡ Some q = some_is (Some p) (Some q) (sym (get_set_here hand k (Some p) in_hand) ∙ f) in
              ap (slice_get (replay M log)) same ∙ (value ∙ r))
              (λ ne.
              let f : slice_get hand i ≡ Some (Some q) = sym (get_set_else hand k i (Some p) ne) ∙ e in
              new.parts i (knows.held i (q, f)) ∙ knows.agrees i q f);
          held = λ i h. by_cases i k (stage w i ≡ 2) (λ same. ap (stage w) same ∙ here) (λ ne. else i ne ∙ knows.held i (h.0, sym (get_set_else hand k i (Some p) ne) ∙ h.1));
          away = λ i h. by_cases i k (stage w i ≡ 0)
              (λ same. absurd (h (subst (λ (x : ℕ). Holds (set hand k (Some p)) x) (sym same) (p, get_set_here hand k (Some p) in_hand))))
              (λ ne. else i ne ∙ knows.away i (λ x. h (x.0, get_set_else hand k i (Some p) ne ∙ x.1)));
          few = l.few;
          budget = l.budget;
          limit = l.limit;
          tied = l.tied;
          wide = length-set v.worn k (M.head p) ∙ knows.wide;
          no_bump = knows.no_bump;
          claims = knows.claims;
          imaged = l.imaged;
        },
        record { joined = refl; sessions = refl; mine = refl; sole = refl; reads = (refl, refl); learned = new },
      )

  -- a part left the hand
  pub gave : (id : ℕ) (v : View E) (hand : List (Option P)) (k : ℕ) (p : P) → Knows M id (v, []) hand → slice_get hand k ≡ Some (Some p) → Knows M id (given v k, []) (set hand k None)
  gave id v hand k p knows there =
      let in_hand : k < length hand = slice_get_within hand k (Some p) there in
      let two : stage v k ≡ 2 = knows.held k (p, there) in
      let else : (i : ℕ) → i ≢ k → stage (given v k) i ≡ stage v i = λ (i : ℕ) ne. stage_else v k 0 i ne in
      let room : k < length v.stages = staged_below v.stages k two in
      record {
        none_out = refl;
        home = refl;
        live = knows.live;
        stages = length-set v.stages k 0 ∙ knows.stages;
        begins = knows.begins;
        few_hands = knows.few_hands;
        sound = knows.sound;
        lawful = knows.lawful;
        mine = knows.mine;
        total = knows.total;
        distinct = knows.distinct;
        room = knows.room;
        agrees = λ i q e. by_cases i k (slice_get (replay M v.log) i ≡ Some q)
            (λ same.
            let f : slice_get (set hand k None) k ≡ Some (Some q) = subst (λ (x : ℕ). slice_get (set hand k None) x ≡ Some (Some q)) same e in
            not_none q (slice_get (replay M v.log) i ≡ Some q) (some_is (Some q) None (sym f ∙ get_set_here hand k None in_hand)))
            (λ ne. knows.agrees i q (sym (get_set_else hand k i None ne) ∙ e));
        held = λ i h. by_cases i k (stage (given v k) i ≡ 2)
            (λ same.
            let f : slice_get (set hand k None) k ≡ Some (Some h.0) = subst (λ (x : ℕ). slice_get (set hand k None) x ≡ Some (Some h.0)) same h.1 in
            not_none h.0 (stage (given v k) i ≡ 2) (some_is (Some h.0) None (sym f ∙ get_set_here hand k None in_hand)))
            (λ ne. else i ne ∙ knows.held i (h.0, sym (get_set_else hand k i None ne) ∙ h.1));
        away = λ i h. by_cases i k (stage (given v k) i ≡ 0) (λ same. ap (stage (given v k)) same ∙ stage_here v k 0 room) (λ ne. else i ne ∙ knows.away i (λ x. h (x.0, get_set_else hand k i None ne ∙ x.1)));
        few = knows.few;
        budget = knows.budget;
        limit = knows.limit;
        tied = knows.tied;
        wide = knows.wide;
        no_bump = knows.no_bump;
        claims = knows.claims;
        imaged = knows.imaged;
      }
    where
      staged_below : (l : List ℕ) (i : ℕ) → slice_index l i ≡ 2 → i < length l
      staged_below [] i e = absurd (omega (arith, e))
      staged_below (x ∷ xs) zero e = omega arith
      staged_below (x ∷ xs) (suc i) e = let h : i < length xs = staged_below xs i e in omega (arith, h)

  -- an event was made
  pub made : (laws : Laws M) (id : ℕ) (v : View E) (hand hand' : List (Option P)) (e : Entry E) (before : List (Entry E)) → Knows M id (v, []) hand → Asks M laws hand v e.event → (e.refused ≡ true → M.takes_memory e.event ≡ true) → length v.mine < 2 ^ 56 * hands_of v → e.pass ≡ id → has e.session v.sessions ≡ true
      → SameRoom hand hand'
      → ((s : List P) → M.sound s → Agrees hand s → M.stands e.event s → M.fits e.event s → MatchBool e.refused (hand' ≡ hand) (Agrees hand' (M.effect e.event s)))
      → Learned M id v before → KeepsClaim M v (before ++ e ∷ []) → Knows M id (added v before e, []) hand' × EndsWith M id v before e (added v before e)
  made laws id v hand hand' e before knows asks may few pass under same meets new claim =
      let still = stays_lawful M laws id hand v e.event before knows.sound knows.room asks knows.held new in
      let t : List P = replay M before in
      let m = meets t new.sound still.0 still.1 still.2 in
      let after' : replay M (before ++ e ∷ []) ≡ after M e t = replay_append M M.start before (e ∷ []) in
      let agrees : (k : ℕ) (p : P) → slice_get hand' k ≡ Some (Some p) → slice_get (after M e t) k ≡ Some p = λ (k : ℕ) (p : P) at. matched e.refused hand hand' t (M.effect e.event t) m still.0 k p at in (
        record {
          none_out = refl;
          home = knows.home;
          live = knows.live;
          stages = knows.stages;
          begins = knows.begins;
          few_hands = knows.few_hands;
          sound = subst M.sound (sym after') (after_is M M.sound e t new.sound (laws.keeps e.event t new.sound still.1 still.2));
          lawful = lawful_append M M.start before (e ∷ []) new.lawful (still.1, still.2, may, tt);
          mine = own_append (id ∷ v.joined) before (e ∷ []) ∙ (ap (λ (x : List (Entry E)). x ++ own (id ∷ v.joined) (e ∷ [])) new.mine ∙ ap (λ (x : List (Entry E)). v.mine ++ x) (own_all (id ∷ v.joined) id (e ∷ []) (has_head id v.joined) (pass, tt)));
          total = (let n : length (v.mine ++ e ∷ []) ≡ length v.mine + 1 = length-append v.mine (e ∷ []) in let t = knows.total in omega (arith, n, t));
          distinct = knows.distinct;
          room = ap length after' ∙ after_is M (λ (x : List P). length x ≡ length M.start) e t new.room (laws.room e.event t new.sound ∙ new.room);
          agrees = λ k p at. ap (λ (x : List P). slice_get x k) after' ∙ agrees k p at;
          held = λ k h. knows.held k (same_holds hand hand' same k h);
          away = λ k h. knows.away k (λ x. h (same.held k x));
          few = (let n : length (v.mine ++ e ∷ []) ≡ length v.mine + 1 = length-append v.mine (e ∷ []) in omega (arith, n, few));
          budget = (let n : length (v.mine ++ e ∷ []) ≡ length v.mine + 1 = length-append v.mine (e ∷ []) in let m : length (before ++ e ∷ []) ≡ length before + 1 = length-append before (e ∷ []) in let b = new.budget in omega (arith, n, m, b));
          limit = knows.limit;
          tied = record {
            within = new.tied.within;
            named = named_append M.passes before (e ∷ []) new.tied.named ((new.tied.within e.session under).0, (new.tied.within e.session under).1, tt);
            alone = λ q is h. only_append q (id ∷ v.joined) before (e ∷ []) (new.tied.alone q is h) (only_mine q (id ∷ v.joined) id (e ∷ []) (has_head id v.joined) (pass, tt));
          };
          wide = knows.wide;
          no_bump = knows.no_bump;
          claims = knows.claims;
          imaged = claim;
        },
        record { joined = refl; sessions = refl; learned = new; log = refl; mine = refl; sole = refl; taken = refl; reads = (refl, refl) },
      )
    where
      matched : (b : Bool) (hand hand' : List (Option P)) (s s' : List P) → MatchBool b (hand' ≡ hand) (Agrees hand' s') → Agrees hand s → (k : ℕ) (p : P) → slice_get hand' k ≡ Some (Some p) → slice_get (cond b s s') k ≡ Some p
      matched true hand hand' s s' e a k p at = a.1 k p (ap (λ h. slice_get h k) (sym e) ∙ at)
      matched false hand hand' s s' e a k p at = e.1 k p at

  -- A pass that knows its hand knows it with nothing out.
  at_rest : (id : ℕ) (me : Me (Option P) (View E)) (hand : List (Option P)) → Knows M id me hand → Knows M id (me.0, []) hand
  at_rest id me hand knows = subst (λ (cs : List (ℕ × Option P)). Knows M id (me.0, cs) hand) knows.none_out knows

  -- A part that is held lies in the hand as the log leaves it.
  pub held_there : (id : ℕ) (me : Me (Option P) (View E)) (hand : List (Option P)) → length hand ≡ length M.start → Knows M id me hand → (k : ℕ) (p : P) → stage me.0 k ≡ 2 → slice_get (replay M me.0.log) k ≡ Some p → slice_get hand k ≡ Some (Some p)
  held_there id me hand room knows k p two there =
      let lt = slice_get_within (replay M me.0.log) k p there in
      let n = knows.room in
      ⊎_elim
      (λ e. absurd (let z = knows.away k (λ h. not_none h.0 ⊥ (some_is (Some h.0) None (sym h.1 ∙ e))) in omega (arith, z, two)))
      (λ h. h.1 ∙ ap (λ (q : P). Some (Some q)) (some_is h.0 p (sym (knows.agrees k h.0 h.1) ∙ there)))
      (place hand k (omega (arith, lt, n, room)))

  -- What a pass knows is known by the same number, of the same view and hand.
  known_at : (id id' : ℕ) (me me' : Me (Option P) (View E)) (hand hand' : List (Option P)) → id' ≡ id → me' ≡ me → hand' ≡ hand → Knows M id me hand → Knows M id' me' hand'
  known_at id id' me me' hand hand' a b c knows =
      subst (λ (i : ℕ). Knows M i me' hand') (sym a) (subst (λ (m : Me (Option P) (View E)). Knows M id m hand') (sym b) (subst (λ (h : List (Option P)). Knows M id me h) (sym c) knows))

  settled_at : (d : ℕ) (me me' : Me (Option P) (View E)) (hand hand' : List (Option P)) → me'.0 ≡ me.0 → hand' ≡ hand → Settled M d me hand → Settled M d me' hand'
  settled_at d me me' hand hand' b c settled =
      subst (λ (h : List (Option P)). Settled M d me' h) (sym c) (record {
        worn = λ k p ne at. ap (λ (x : View E). worn_by x k) b ∙ settled.worn k p ne at;
        hot = λ k p is at. let h = settled.hot k p is at in (subst IsHot (sym (ap (λ (x : View E). worn_by x k) b)) h.0, ap (λ (x : View E). worn_by x k + 3 * 2 ^ 30) b ∙ h.1);
        drained = ap (λ (x : View E). x.drained) b ∙ settled.drained;
      })

  -- a part came into the hand, whose word follows it
  took_settled : (v : View E) (hand : List (Option P)) (k : ℕ) (p : P) (log : List (Entry E)) → Settled M 0 (v, []) hand → length v.worn ≡ length M.start → k < length M.start → slice_get hand k ≡ Some None
      → Settled M 0 (homed (loaded (staged v k 1) k (M.head p) log), []) (set hand k (Some p))
  took_settled v hand k p log settled wide lt none' =
      let w : View E = homed (loaded (staged v k 1) k (M.head p) log) in
      let in_hand : k < length hand = slice_get_within hand k None none' in
      record {
        worn = λ i q ne e. by_cases i k (worn_by w i ≡ M.head q)
            (λ same.
            let f : slice_get (set hand k (Some p)) k ≡ Some (Some q) = subst (λ (x : ℕ). slice_get (set hand k (Some p)) x ≡ Some (Some q)) same e in
            let r : p ≡ q = some_is p q (some_is (Some p) (Some q) (sym (get_set_here hand k (Some p) in_hand) ∙ f)) in
            ap (worn_by w) same ∙ (get_or-set_same v.worn k (M.head p) 0 (omega (arith, wide, lt)) ∙ ap M.head r))
            (λ else. get_or-set_other v.worn k i (M.head p) 0 else ∙ settled.worn i q ne (sym (get_set_else hand k i (Some p) else) ∙ e));
        hot = λ i q is e. absurd (omega (arith, is));
        drained = settled.drained;
      }

  -- a part left the hand
  gave_settled : (v : View E) (hand : List (Option P)) (k : ℕ) (p : P) → Settled M 0 (v, []) hand → slice_get hand k ≡ Some (Some p) → Settled M 0 (given v k, []) (set hand k None)
  gave_settled v hand k p settled there =
      let in_hand : k < length hand = slice_get_within hand k (Some p) there in
      record {
        worn = λ i q ne e. by_cases i k (worn_by v i ≡ M.head q)
            (λ same.
            let f : slice_get (set hand k None) k ≡ Some (Some q) = subst (λ (x : ℕ). slice_get (set hand k None) x ≡ Some (Some q)) same e in
            not_none q (worn_by v i ≡ M.head q) (some_is (Some q) None (sym f ∙ get_set_here hand k None in_hand)))
            (λ else. settled.worn i q ne (sym (get_set_else hand k i None else) ∙ e));
        hot = λ i q is e. absurd (omega (arith, is));
        drained = settled.drained;
      }

  -- the same of seats: s at first, l with the latch, t at the end
  pub took_at : (z : TableId) (s l t : Seat (Option P) (View E)) (hand hand' : List (Option P)) (k : ℕ) (p : P) (log : List (Entry E)) → IsOf M z s hand → k < length M.start → slice_get hand k ≡ Some None
      → IsSameSeat s l → IsSameSeat l t → l.me ≡ (staged s.me.0 k 1, []) → Learned M l.id l.me.0 log → slice_get (replay M log) k ≡ Some p → t.me ≡ (homed (loaded l.me.0 k (M.head p) log), [])
      → hand' ≡ set hand k (Some p) → IsOf M z t hand' × Looks M s t
  took_at z s l t hand hand' k p log pass lt none' sl lt' latched learned value after' hands =
      let v = s.me.0 in
      let first : l.me.0 ≡ staged v k 1 = ap (λ (m : Me (Option P) (View E)). m.0) latched in
      let new : Learned M s.id (staged v k 1) log = subst (λ (x : View E). Learned M s.id x log) first (subst (λ (i : ℕ). Learned M i l.me.0 log) sl.1 learned) in
      let end' : t.me ≡ (homed (loaded (staged v k 1) k (M.head p) log), []) = after' ∙ ap (λ (x : View E). let y : Me (Option P) (View E) = (homed (loaded x k (M.head p) log), []) in y) first in
      let r = took s.id v hand k p log (at_rest s.id s.me hand pass.1) lt none' new value in (
        (
          lt'.0 ∙ (sl.0 ∙ pass.0),
          known_at s.id t.id (homed (loaded (staged v k 1) k (M.head p) log), []) t.me (set hand k (Some p)) hand' (lt'.1 ∙ sl.1) end' hands r.0,
          settled_at 0 (homed (loaded (staged v k 1) k (M.head p) log), []) t.me (set hand k (Some p)) hand' (ap (λ (m : Me (Option P) (View E)). m.0) end') hands (took_settled v hand k p log (settled_at 0 s.me (v, []) hand hand refl refl pass.2) pass.1.wide lt none'),
        ),
        ((lt'.0 ∙ sl.0, lt'.1 ∙ sl.1), subst (λ (x : View E). LooksOn M s.id v x) (sym (ap (λ (m : Me (Option P) (View E)). m.0) end')) r.1),
      )

  -- and what it ever took
  pub taken_at : (s l t : Seat (Option P) (View E)) (k head : ℕ) (log : List (Entry E)) → l.me ≡ (staged s.me.0 k 1, []) → t.me ≡ (homed (loaded l.me.0 k head log), []) → t.me.0.taken ≡ s.me.0.taken ++ k ∷ []
  taken_at s l t k head log latched after' = ap (λ (m : Me (Option P) (View E)). m.0.taken) after' ∙ ap (λ (m : Me (Option P) (View E)). m.0.taken) latched

  -- What a pass knows after a part was given back.
  pub gave_at : (z : TableId) (s t : Seat (Option P) (View E)) (hand hand' : List (Option P)) (k : ℕ) (p : P) → IsOf M z s hand → slice_get hand k ≡ Some (Some p)
      → IsSameSeat s t → t.me ≡ (given s.me.0 k, []) → hand' ≡ set hand k None → IsOf M z t hand'
  gave_at z s t hand hand' k p pass there st after' hands = (
    st.0 ∙ pass.0,
    known_at s.id t.id (given s.me.0 k, []) t.me (set hand k None) hand' st.1 after' hands (gave s.id s.me.0 hand k p (at_rest s.id s.me hand pass.1) there),
    settled_at 0 (given s.me.0 k, []) t.me (set hand k None) hand' (ap (λ (m : Me (Option P) (View E)). m.0) after') hands (gave_settled s.me.0 hand k p (settled_at 0 s.me (s.me.0, []) hand hand refl refl pass.2) there),
  )

  -- What it knows after an event of its own.
  pub made_at : (laws : Laws M) (z : TableId) (s t : Seat (Option P) (View E)) (hand hand' : List (Option P)) (e : Entry E) (before : List (Entry E)) → (s.table_id ≡ z) × Knows M s.id s.me hand → Asks M laws hand s.me.0 e.event → (e.refused ≡ true → M.takes_memory e.event ≡ true) → length s.me.0.mine < 2 ^ 56 * hands_of s.me.0 → e.pass ≡ s.id → has e.session s.me.0.sessions ≡ true
      → SameRoom hand hand'
      → ((x : List P) → M.sound x → Agrees hand x → M.stands e.event x → M.fits e.event x → MatchBool e.refused (hand' ≡ hand) (Agrees hand' (M.effect e.event x)))
      → Learned M s.id s.me.0 before → KeepsClaim M s.me.0 (before ++ e ∷ []) → IsSameSeat s t → t.me ≡ (added s.me.0 before e, []) → ((t.table_id ≡ z) × Knows M t.id t.me hand') × Extends M s before e t
  made_at laws z s t hand hand' e before pass asks may few by under same meets new claim st after' =
      let r = made laws s.id s.me.0 hand hand' e before (at_rest s.id s.me hand pass.1) asks may few by under same meets new claim in (
        (st.0 ∙ pass.0, known_at s.id t.id (added s.me.0 before e, []) t.me hand' hand' st.1 after' refl r.0),
        (st, subst (λ (x : View E). EndsWith M s.id s.me.0 before e x) (sym (ap (λ (m : Me (Option P) (View E)). m.0) after')) r.1),
      )

-- a part that is named as the one that is thawed is thawed
pub thawed_is : (o : Option ℕ) (k : ℕ) → suc k ≡ thawed_by o → o ≡ Some k
thawed_is None k e = absurd (omega (arith, e))
thawed_is (Some j) k e = ap Some (let x : j ≡ k = omega (arith, e) in x)

module _ {P E T F : Type 0} (M : Meaning P E T F) (laws : Laws M) where
  -- What an event makes of the parts in the hand, their words may be turned to.
  pub heads_turn : (v : View E) (hand hand' : List (Option P)) (e : Entry E) (t : List P) → Settled M (thawed_by (M.thaws e.event)) (v, []) hand → SameRoom hand hand' → M.sound t → Agrees hand t → M.stands e.event t → M.fits e.event t
      → MatchBool e.refused (hand' ≡ hand) (Agrees hand' (M.effect e.event t)) → (k : ℕ) (p : P) → slice_get hand' k ≡ Some (Some p) → MayTurn (worn_by v k) (M.head p)
  heads_turn v hand hand' e t settled same ok agrees stands fits meets k p at =
      let was = same_holds hand hand' same k (p, at) in
      let d : ℕ = thawed_by (M.thaws e.event) in
      go e.refused meets was d refl
    where
      stays : (q : P) → slice_get hand k ≡ Some (Some q) → p ≡ q → MayTurn (worn_by v k) (M.head p)
      stays q there is = by_cases (suc k) (thawed_by (M.thaws e.event)) (MayTurn (worn_by v k) (M.head p))
          (λ thaws. let h = settled.hot k q thaws there in inr (inr (h.0, ap M.head is ∙ sym h.1)))
          (λ ne. inl (ap M.head is ∙ sym (settled.worn k q ne there)))

      go : (b : Bool) → MatchBool b (hand' ≡ hand) (Agrees hand' (M.effect e.event t)) → Holds hand k → (d : ℕ) → d ≡ thawed_by (M.thaws e.event) → MayTurn (worn_by v k) (M.head p)
      go true m was d is = stays p (ap (λ h. slice_get h k) (sym m) ∙ at) refl
      go false m was d is = ⊎_elim
          (λ thaw.
          let h = settled.hot k was.0 (sym (ap thawed_by thaw.0)) was.1 in
          let a = h.1 in
          let c = thaw.2 in
          inl (omega (arith, a, c)))
          (λ other.
          let w = settled.worn k was.0 (λ x. other.0 (thawed_is (M.thaws e.event) k x)) was.1 in
          ⊎_elim (λ x. inl (x ∙ sym w)) (λ x. inr (inl (subst (λ h. TurnsOn h (M.head p)) (sym w) x))) other.1)
          (laws.turns e.event t k was.0 p ok stands fits (agrees.1 k was.0 was.1) (m.1 k p at))

  -- An event that turns no word leaves the heads of the parts in the hand, and thaws none.
  pub heads_stay : (v : View E) (hand hand' : List (Option P)) (e : Entry E) (t : List P) → Settled M (thawed_by (M.thaws e.event)) (v, []) hand → SameRoom hand hand' → M.sound t → Agrees hand t → M.stands e.event t → M.fits e.event t → M.turning e.event ≡ false
      → MatchBool e.refused (hand' ≡ hand) (Agrees hand' (M.effect e.event t)) → (k : ℕ) (p : P) → slice_get hand' k ≡ Some (Some p) → worn_by v k ≡ M.head p
  heads_stay v hand hand' e t settled same ok agrees stands fits turns meets k p at =
      let was = same_holds hand hand' same k (p, at) in
      let q = was.0 in
      let there : slice_get t k ≡ Some q = agrees.1 k q was.1 in
      let lt = slice_get_within t k q there in
      let room = laws.room e.event t ok in
      let later = there_is (M.effect e.event t) k (omega (arith, lt, room)) in
      let stays : (x : P) → slice_get (M.effect e.event t) k ≡ Some x → M.head x ≡ M.head q = λ (x : P) is. laws.still e.event t k q x ok stands fits turns there is in
      let none' : suc k ≢ thawed_by (M.thaws e.event) = λ is. ⊎_elim
      (λ thaw. let a = thaw.1.0 in let b = thaw.2 in let c = stays later.0 later.1 in omega (arith, a, b, c))
      (λ other. other.0 (thawed_is (M.thaws e.event) k is))
      (laws.turns e.event t k q later.0 ok stands fits there later.1) in
      let worn : worn_by v k ≡ M.head q = settled.worn k q none' was.1 in
      worn ∙ go e.refused meets q was.1 stays
    where
      go : (b : Bool) → MatchBool b (hand' ≡ hand) (Agrees hand' (M.effect e.event t)) → (q : P) → slice_get hand k ≡ Some (Some q) → ((x : P) → slice_get (M.effect e.event t) k ≡ Some x → M.head x ≡ M.head q) → M.head q ≡ M.head p
      go true m q there stays = ap M.head (some_is q p (some_is (Some q) (Some p) (sym there ∙ (ap (λ h. slice_get h k) (sym m) ∙ at))))
      go false m q there stays = sym (stays p (m.1 k p at))

  -- What is known of a log is known with other heads.
  pub reworded : (id : ℕ) (v w : View E) (hand : List (Option P)) → w ≡ record v { worn = w.worn; drained = w.drained } → length w.worn ≡ length v.worn → Knows M id (v, []) hand → Knows M id (w, []) hand
  reworded id v w hand same room k = subst (λ x. Knows M id (x, []) hand) (sym same) (record {
    none_out = refl;
    home = k.home;
    live = k.live;
    stages = k.stages;
    begins = k.begins;
    few_hands = k.few_hands;
    sound = k.sound;
    lawful = k.lawful;
    mine = k.mine;
    total = k.total;
    distinct = k.distinct;
    room = k.room;
    agrees = k.agrees;
    held = k.held;
    away = k.away;
    few = k.few;
    budget = k.budget;
    limit = k.limit;
    tied = k.tied;
    wide = room ∙ k.wide;
    no_bump = k.no_bump;
    claims = k.claims;
    imaged = k.imaged;
  })

  -- A pass whose words all follow its parts is settled.
  pub settled_pass : (z : TableId) (s t : Seat (Option P) (View E)) (hand : List (Option P)) → s.table_id ≡ z → Knows M s.id s.me hand → t.table_id ≡ s.table_id → t.id ≡ s.id → t.me.1 ≡ []
      → t.me.0 ≡ record s.me.0 { worn = t.me.0.worn; drained = t.me.0.drained } → length t.me.0.worn ≡ length s.me.0.worn → t.me.0.drained ≡ 0
      → ((k : ℕ) (p : P) → slice_get hand k ≡ Some (Some p) → worn_by t.me.0 k ≡ M.head p) → IsOf M z t hand
  settled_pass z s t hand table knows table' id none' same room drained done =
      let rest : Knows M s.id (t.me.0, []) hand = reworded s.id s.me.0 t.me.0 hand same room (at_rest M s.id s.me hand knows) in
      let me : t.me ≡ (t.me.0, []) = λ i. (t.me.0, none' i) in (
        table' ∙ table,
        known_at M s.id t.id (t.me.0, []) t.me hand hand id me refl rest,
        record { worn = λ k p ne at. done k p at; hot = λ k p is at. absurd (omega (arith, is)); drained = drained },
      )

  -- An event's place in the log is told with other heads.
  pub extends_on : (s t u : Seat (Option P) (View E)) (before : List (Entry E)) (e : Entry E) → Extends M s before e t → IsSameSeat t u → u.me.0 ≡ record t.me.0 { worn = u.me.0.worn; drained = u.me.0.drained } → Extends M s before e u
  extends_on s t u before e x tu same =
      let y = x.1 in
      ((tu.0 ∙ x.0.0, tu.1 ∙ x.0.1), subst (λ (w : View E). EndsWith M s.id s.me.0 before e w) (sym same) (record { joined = y.joined; sessions = y.sessions; learned = y.learned; log = y.log; mine = y.mine; sole = y.sole; taken = y.taken; reads = y.reads }))
