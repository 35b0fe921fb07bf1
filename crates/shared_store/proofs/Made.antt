-- An event made by a session's pass: its parts are taken, it is made on them, they are given back.
use Rattle.std.proofs.Common.{◌≡◌, ℕ, suc, ◌+◌, ◌<◌, ◌≤◌, ◌^◌, Bool, true, false, List, [], ◌∷◌, ◌++◌, Option, None, Some, length, refl, sym, ap, subst, ◌∙◌, append-nil, length-append, true≢false, arith}
use mathlib.Core.Logic.{inl, inr}
use Rattle.std.specs.Prelude.{⊤, MatchBool}
use Rattle.std.proofs.lemmas.List.{length-map}
use Rattle.engine_core.specs.Core.{is_memory}
use Rattle.engine_core.specs.Costs.{cost_of}
use Rattle.core_laws.specs.Words.Words.{thawed_part}
use Rattle.event_spec.specs.declared.own.OwnTransaction.{OwnTransaction}
use Rattle.event_spec.specs.declared.reply.Reply.TheVariants as reply
use Rattle.event_spec.specs.Effects.{CoreEvent}
use Rattle.event_spec.specs.Lawful.{IsOldest, Stands, session_of, transaction}
use Rattle.event_spec.specs.Parts.{Parts, Shape, desk_at}
use Rattle.event_spec.specs.Replies.{CoreReply, reply_to}
use Rattle.event_spec.specs.Replay.{after, opening}
use Rattle.event_spec.specs.Touched.{touching}
use Rattle.core_laws.proofs.Hall.Meets.{has_laws}
use Rattle.hall_rule.specs.EventLog.{LawfulFrom, has, replay}
use Rattle.hall_rule.specs.HallInvariant.{hands_of}
use Rattle.hall_rule.specs.Hands.{Holds}
use Rattle.hall_rule.specs.Views.{entry_of, with_hand_of}
use Rattle.hall_rule.specs.declared.view.Entry.{Entry}
use Rattle.hall_rule.specs.declared.view.View.{View}
use Rattle.hall_rule.proofs.Logs.{has_head, lawful_rest, replay_append}
use Rattle.hall_steps.specs.Hall.{Extends, EndsWith, IsPass, IsSameSeat, Knows, SeesMore, TookParts, first_of, thawed_by}
use Rattle.run_spec.specs.Calls.{is_memory as lacks_memory}
use Rattle.run_spec.specs.Opened.{own_behind}
use Rattle.store_laws.specs.Laws.{IsOfSession, Replied, SeesOn}
use Rattle.store_laws.specs.Logs.{log_of, logged_of, store_meaning}
use Rattle.store_laws.specs.Own.{StandsUnder, KnowsOwn, MakesOne}
use Rattle.store_laws.proofs.Calling.{saw_and_made}
use Rattle.store_laws.proofs.Entries.{lawful_same, log_append, replay_same}
use Rattle.store_laws.proofs.Knowing.{looks_go_on}
use Rattle.store_laws.proofs.Making.{events_go_on}
use Rattle.store_laws.proofs.Stamps.{stamps_are_few}
use Rattle.store_laws.specs.Own.{entry_of as core_entry, parts_after}
use Rattle.store_laws.proofs.Calling.{goes_far, made_on}
use Rattle.run_spec.specs.Handed.{GoesOn, own_in}
use Rattle.run_spec.specs.Occurrences.{Logged}
use Rattle.run_spec.specs.Opened.{own_after}
use Rattle.store_laws.specs.OwnLaws.{HasOpened}
use Rattle.hall_rule.specs.Hands.{Agrees, Covers, SameRoom, all_in}
use Rattle.shared_store.specs.Making.{FitsEach, Gives, IsFew, Makes, MakesHeld, MayMake, MayMakeHeld, OldestLasts, ReadsFew, Takes, parts_seen}
use Rattle.shared_store.specs.Store.{HandsView, IsStore, IsWithin, IsWithinAt, SeatView, StoreView, TookPartsOf, shape_in}
use Rattle.shared_store.proofs.Hands.{agrees_with, touching_whole}
use Rattle.shared_store.proofs.Claims.{same_on}

-- both tests of a reply are one
pub memory_same : (told : CoreReply) → is_memory told ≡ lacks_memory told
memory_same reply.Memory = refl
memory_same (reply.Begun snapshot) = refl
memory_same (reply.Found row) = refl
memory_same (reply.Written place) = refl
memory_same (reply.Refused fault) = refl
memory_same (reply.Rows rows) = refl
memory_same (reply.Shared rows) = refl
memory_same (reply.Committed number) = refl
memory_same (reply.Stale what number) = refl
memory_same reply.Aborted = refl
memory_same (reply.Oldest stamp) = refl
memory_same (reply.Turned turned) = refl
memory_same (reply.Dropped count) = refl
memory_same (reply.Looked look) = refl
memory_same (reply.Moved count) = refl
memory_same (reply.Sealed stamp) = refl
memory_same (reply.NotSealed fault) = refl
memory_same (reply.Imaged rows) = refl
memory_same reply.NoSeal = refl
memory_same reply.Thawed = refl

-- a reply that lacks memory is the one that says so
pub memory_is : (told : CoreReply) → lacks_memory told ≡ true → told ≡ reply.Memory
memory_is reply.Memory is = refl
memory_is (reply.Begun snapshot) is = absurd (true≢false (sym is))
memory_is (reply.Found row) is = absurd (true≢false (sym is))
memory_is (reply.Written place) is = absurd (true≢false (sym is))
memory_is (reply.Refused fault) is = absurd (true≢false (sym is))
memory_is (reply.Rows rows) is = absurd (true≢false (sym is))
memory_is (reply.Shared rows) is = absurd (true≢false (sym is))
memory_is (reply.Committed number) is = absurd (true≢false (sym is))
memory_is (reply.Stale what number) is = absurd (true≢false (sym is))
memory_is reply.Aborted is = absurd (true≢false (sym is))
memory_is (reply.Oldest stamp) is = absurd (true≢false (sym is))
memory_is (reply.Turned turned) is = absurd (true≢false (sym is))
memory_is (reply.Dropped count) is = absurd (true≢false (sym is))
memory_is (reply.Looked look) is = absurd (true≢false (sym is))
memory_is (reply.Moved count) is = absurd (true≢false (sym is))
memory_is (reply.Sealed stamp) is = absurd (true≢false (sym is))
memory_is (reply.NotSealed fault) is = absurd (true≢false (sym is))
memory_is (reply.Imaged rows) is = absurd (true≢false (sym is))
memory_is reply.NoSeal is = absurd (true≢false (sym is))
memory_is reply.Thawed is = absurd (true≢false (sym is))

-- an event's reply is the core's, or want of memory
pub replied_of : (Q : Type 0) (shape : Shape) (parts : Parts) (e : CoreEvent) (told : CoreReply) → MatchBool (is_memory told) Q (told ≡ reply_to shape parts e) → Replied shape parts e told
replied_of Q shape parts e told m = go (lacks_memory told) refl (subst (λ b. MatchBool b Q (told ≡ reply_to shape parts e)) (memory_same told) m)
  where
    go : (b : Bool) → lacks_memory told ≡ b → MatchBool b Q (told ≡ reply_to shape parts e) → MatchBool b (told ≡ reply.Memory) (told ≡ reply_to shape parts e)
    go true is m = memory_is told is
    go false is m = m

-- ---- what a pass knows

module _ {thawing : ℕ} (store : StoreView) (session : ℕ) (seat : SeatView) (hands : HandsView) (own : Option OwnTransaction)
    (is : IsWithinAt thawing store session seat hands own)
  where
    -- A session's pass knows what it must of its log and its hand.
    knows_of : Knows (store_meaning (shape_in store)) seat.id seat.me (first_of hands)
    knows_of = is.pass.of.1

    -- a session's pass has one hand
    pub one_hand : hands_of seat.me.0 ≡ 1
    one_hand = ap (λ (qs : List ℕ). length qs) is.knows.sessions

    -- a session's pass has this session
    pub in_sessions : has session seat.me.0.sessions ≡ true
    in_sessions = ap (has session) is.knows.sessions ∙ has_head session []

    -- one stamp is left at least
    pub stamp_left : IsStore store → IsFew seat.me.0 → (desk_at (shape_in store) (parts_seen (shape_in store) seat.me.0)).newest + 1 < 2 ^ 63
    stamp_left is_store few =
        let one = one_hand in
        let budget = knows_of.budget in
        let limit = knows_of.limit in
        let parts : (desk_at (shape_in store) (parts_seen (shape_in store) seat.me.0)).newest ≡ (desk_at (shape_in store) (parts_after (shape_in store) (log_of seat.me.0.log))).newest =
        ap (λ (x : Parts). (desk_at (shape_in store) x).newest) (replay_same (shape_in store) seat.me.0.log) in
        let stamps = stamps_are_few (shape_in store) (log_of seat.me.0.log) is_store.opening.measures (lawful_same (shape_in store) seat.me.0.log knows_of.lawful) in
        let long : length (log_of seat.me.0.log) ≡ length seat.me.0.log = length-map seat.me.0.log logged_of in
        omega (arith, few, one, budget, limit, parts, stamps, long)

    -- an event of the session names one of the pass's
    pub named_there : (e : CoreEvent) → IsOfSession session e → (q : ℕ) → session_of e ≡ Some q → has q seat.me.0.sessions ≡ true
    named_there e mine q of = go mine
      where
        some_is : (a b : ℕ) → Some a ≡ Some b → a ≡ b
        some_is a b x = cc

        none_is : (a : ℕ) → None ≡ Some a → ⊥
        none_is a x = cc

        go : IsOfSession session e → has q seat.me.0.sessions ≡ true
        go (inl mine) = ap (λ r. has r seat.me.0.sessions) (some_is q session (sym of ∙ mine)) ∙ in_sessions
        go (inr unnamed) = absurd (none_is q (sym unnamed ∙ of))

-- ---- taking

module _ (store : StoreView) (s t : SeatView) (held hands : HandsView) (e : CoreEvent)
    (there : IsPass (store_meaning (shape_in store)) store.id t hands) (same_t : IsSameSeat s t)
    (sees : SeesMore (store_meaning (shape_in store)) s.me.0 t.me.0)
    (session : ℕ) (own : Option OwnTransaction) (within : IsWithin store session s held own)
  where
    abbrev sh : Shape
    sh = shape_in store

    knows_old : Knows (store_meaning sh) t.id s.me (first_of held)
    knows_old = subst (λ i. Knows (store_meaning sh) i s.me (first_of held)) (sym same_t.1) within.pass.of.1

    knows_t : Knows (store_meaning sh) t.id t.me (first_of hands)
    knows_t = there.of.1

    looked : SeesOn sh session s.me.0 t.me.0 own
    looked = looks_go_on sh session t.id s.me t.me (first_of held) (first_of hands) own knows_old knows_t sees within.knows

    hand_there : hands_of t.me.0 ≡ 1
    hand_there = ap (λ (qs : List ℕ). length qs) looked.knows.sessions

    -- it stands in the log that was seen since
    still : (other : CoreEvent) → IsOfSession session other → Stands sh other (parts_seen sh s.me.0) → Stands sh other (parts_seen sh t.me.0)
    still other mine stands = (has_laws sh (opening sh) sh.passes).depends other (parts_seen sh s.me.0) (parts_seen sh t.me.0) within.pass.of.1.sound knows_t.sound
        (λ q is. same mine q is) (λ f known. sees.stays.facts f known) stands
      where
        some_is : (a b : ℕ) → Some a ≡ Some b → a ≡ b
        some_is a b x = cc

        none_is : (a : ℕ) → None ≡ Some a → ⊥
        none_is a x = cc

        same : IsOfSession session other → (q : ℕ) → session_of other ≡ Some q → transaction sh (parts_seen sh t.me.0) q ≡ transaction sh (parts_seen sh s.me.0) q
        same (inl mine) q is = subst (λ r. transaction sh (parts_seen sh t.me.0) r ≡ transaction sh (parts_seen sh s.me.0) r) (some_is session q (sym mine ∙ is))
            (sees.stays.transactions session (in_sessions store session s held own within))
        same (inr unnamed) q is = absurd (none_is q (sym unnamed ∙ is))

    -- parts that the event touches were taken beside any that were held
    pub taken_parts : Covers (touching (shape_in store) e) (first_of hands) → (parts : List ℕ) → t.me.0.taken ≡ s.me.0.taken ++ parts
        → ((k : ℕ) → has k parts ≡ true → touching (shape_in store) e (all_in (parts_after (shape_in store) (log_of t.me.0.log))) k ≡ true)
        → Takes store session s t hands own e
    taken_parts covers parts taken touches = record {
      within = record { pass = there; knows = looked.knows };
      sees = looked;
      mine = sees.mine;
      covers = covers;
      took = record {
        parts = parts;
        took = taken;
        touched = λ k is. record {
          event = e;
          is_one = inl refl;
          log = log_of t.me.0.log;
          saw = looked.goes_on;
          left = ([], sym (append-nil (log_of t.me.0.log)));
          touches = touches k is;
        };
      };
      stands = still;
      lasting = λ stamp known. sees.stays.facts stamp known;
    }

    -- all parts that it touches, and no others, were taken
    pub taken_event : Covers (touching (shape_in store) e) (first_of hands)
        → ((k : ℕ) → Holds (first_of hands) k → touching (shape_in store) e (first_of hands) k ≡ true)
        → TookParts (first_of hands) s.me.0 t.me.0 → Takes store session s t hands own e
    taken_event covers only took = taken_parts covers took.parts took.taken (λ k is. touches k (took.held k is))
      where
        touches : (k : ℕ) → Holds (first_of hands) k → touching sh e (all_in (parts_after sh (log_of t.me.0.log))) k ≡ true
        touches k holds = subst (λ (x : Parts). touching sh e (all_in x) k ≡ true) (replay_same sh t.me.0.log)
            (touching_whole sh (first_of hands) (replay (store_meaning sh) t.me.0.log) (agrees_with store t hands there hand_there) e k covers (only k holds))

-- ---- the event

-- lists that each end with one item more are the same before it, where they are one
pub fronts : {X : Type 0} (xs ys : List X) (x y : X) → xs ++ x ∷ [] ≡ ys ++ y ∷ [] → xs ≡ ys
fronts [] [] x y e = refl
fronts [] (b ∷ ys) x y e = let l : 1 ≡ suc (length (ys ++ y ∷ [])) = ap length e in let m = length-append ys (y ∷ []) in absurd (omega (arith, l, m))
fronts (a ∷ xs) [] x y e = let l : suc (length (xs ++ x ∷ [])) ≡ 1 = ap length e in let m = length-append xs (x ∷ []) in absurd (omega (arith, l, m))
fronts (a ∷ xs) (b ∷ ys) x y e =
    let head : a ≡ b = cc in let tail : xs ++ x ∷ [] ≡ ys ++ y ∷ [] = cc in
    ap (λ z. z ∷ xs) head ∙ ap (λ zs. b ∷ zs) (fronts xs ys x y tail)

module _ (store : StoreView) (is_store : IsStore store) (t u : SeatView) (hands later : HandsView) (e : CoreEvent) (told : CoreReply)
    (made : IsPass (store_meaning (shape_in store)) store.id u later)
    (room : SameRoom (first_of hands) (first_of later))
    (before : List (Entry CoreEvent))
    (extends : Extends (store_meaning (shape_in store)) t before (entry_of t.id t.me.0 (is_memory told) e) u)
    (Q : Type 0) (said : MatchBool (is_memory told) Q (told ≡ reply_to (shape_in store) (replay (store_meaning (shape_in store)) before) e))
    (thawing session : ℕ) (own : Option OwnTransaction) (within : IsWithinAt thawing store session t hands own) (mine : IsOfSession session e)
  where
    abbrev shape : Shape
    shape = shape_in store

    abbrev entry : Entry CoreEvent
    entry = entry_of t.id t.me.0 (lacks_memory told) e

    ends : EndsWith (store_meaning shape) t.id t.me.0 before entry u.me.0
    ends = subst (λ b. EndsWith (store_meaning shape) t.id t.me.0 before (entry_of t.id t.me.0 b e) u.me.0) (memory_same told) extends.1

    knows_new : Knows (store_meaning shape) t.id u.me (first_of later)
    knows_new = subst (λ i. Knows (store_meaning shape) i u.me (first_of later)) extends.0.1 made.of.1

    went : MakesOne shape session (log_of t.me.0.log) (log_of u.me.0.log) e told × KnowsOwn shape session u.me.0 (own_behind own e told)
    went = events_go_on shape session t.id t.me u.me (first_of hands) (first_of later) before own e told is_store.opening.measures within.pass.of.1 knows_new ends
        (replied_of Q shape (replay (store_meaning shape) before) e told said) mine within.knows

    lawful_entry : LawfulFrom (store_meaning shape) (replay (store_meaning shape) before) (entry ∷ [])
    lawful_entry = lawful_rest (store_meaning shape) (store_meaning shape).start before (entry ∷ [])
        (subst (LawfulFrom (store_meaning shape) (store_meaning shape).start) ends.log knows_new.lawful)

    -- a stamp that no snapshot is below stays one
    lasts : OldestLasts shape t.me.0 u.me.0
    lasts stamp known = subst (IsOldest shape stamp) (sym state) (go (lacks_memory told) (ends.learned.facts stamp known))
      where
        parts : Parts
        parts = replay (store_meaning shape) before

        state : replay (store_meaning shape) u.me.0.log ≡ after shape parts (record { event = e; refused = lacks_memory told })
        state = ap (replay (store_meaning shape)) ends.log ∙ replay_append (store_meaning shape) (store_meaning shape).start before (entry ∷ [])

        go : (b : Bool) → IsOldest shape stamp parts → IsOldest shape stamp (after shape parts (record { event = e; refused = b }))
        go true old = old
        go false old = (has_laws shape (opening shape) shape.passes).outlives e stamp parts ends.learned.sound lawful_entry.0 lawful_entry.1 old

    -- the parts in the hand are those that the log before the event leaves
    before_is : went.0.before ≡ log_of before
    before_is = fronts went.0.before (log_of before) (core_entry session e told) (logged_of entry)
        (sym went.0.log ∙ ap log_of ends.log ∙ log_append shape before (entry ∷ []))

    agreed : Agrees (first_of hands) (replay (store_meaning shape) before)
    agreed =
        let mine = agrees_with store t hands within.pass (one_hand store session t hands own within) in (
          mine.0 ∙ within.pass.of.1.room ∙ sym ends.learned.room,
          λ k p is. ends.learned.parts k (within.pass.of.1.held k (p, is)) ∙ mine.1 k p is,
        )

    -- the session made the event on the parts that it held
    pub made_event : MakesHeld store session t u hands later own e told
    made_event = record {
      within = record { pass = made; knows = went.1 };
      makes = went.0;
      refuses = λ is. lawful_entry.2 is;
      count = ap (λ (es : List (Entry CoreEvent)). length es) ends.mine ∙ length-append t.me.0.mine (entry ∷ []);
      taken = ends.taken;
      room = room;
      agrees = subst (Agrees (first_of hands)) (replay_same shape before ∙ ap (parts_after shape) (sym before_is)) agreed;
      reads = ends.reads;
      lasting = lasts;
    }

    -- and looked at no more rows than it may
    pub reads_few : (spent steps : ℕ) → steps ≤ spent + cost_of shape e (replay (store_meaning shape) before) → ReadsFew shape u.me.0 e told spent steps
    reads_few spent steps few = record {
      before = log_of before;
      last = logged_of entry;
      log = ap log_of ends.log ∙ log_append shape before (entry ∷ []);
      tells = tells (lacks_memory told) (subst (λ b. MatchBool b Q (told ≡ reply_to shape (replay (store_meaning shape) before) e)) (memory_same told) said);
      few = subst (λ (parts : Parts). steps ≤ spent + cost_of shape e parts) (replay_same shape before) few;
    }
      where
        tells : (b : Bool) → MatchBool b Q (told ≡ reply_to shape (replay (store_meaning shape) before) e) → MatchBool b ⊤ (told ≡ reply_to shape (parts_after shape (log_of before)) e)
        tells true is = tt
        tells false is = is ∙ ap (λ (parts : Parts). reply_to shape parts e) (replay_same shape before)

-- ---- giving back

-- as it is told where the log is the same
pub few_still : (shape : Shape) (v w : View CoreEvent) (e : CoreEvent) (told : CoreReply) (spent steps : ℕ) → w.log ≡ v.log → ReadsFew shape v e told spent steps → ReadsFew shape w e told spent steps
few_still _ v w e told spent steps same few = record { before = few.before; last = few.last; log = ap log_of same ∙ few.log; tells = few.tells; few = few.few }

-- a view with the log and the sessions of another knows what that knows
pub knows_same : (sh : Shape) (session : ℕ) (v w : View CoreEvent) (own : Option OwnTransaction)
    → w.log ≡ v.log → w.sessions ≡ v.sessions → w.sole ≡ v.sole → KnowsOwn sh session v own → KnowsOwn sh session w own
knows_same sh session v w own log sessions sole knows = record {
  sessions = sessions ∙ knows.sessions;
  sole = ap (has session) sole ∙ knows.sole;
  under = subst (λ (l : List (Entry CoreEvent)). StandsUnder session (log_of l)) (sym log) knows.under;
  own_is = knows.own_is ∙ ap (λ (l : List (Entry CoreEvent)). own_after (own_in sh session (log_of l))) (sym log);
  opened = subst (λ (l : List (Entry CoreEvent)). HasOpened sh (replay (store_meaning sh) l) session own) (sym log) knows.opened;
}

-- a pass that gave back all that it held knows what it knew
pub gave_back : (store : StoreView) (session : ℕ) (u w : SeatView) (hands later : HandsView) (own : Option OwnTransaction)
    → IsWithin store session u hands own → IsPass (store_meaning (shape_in store)) store.id w later
    → w.me.0 ≡ with_hand_of w.me.0 u.me.0 → ((k : ℕ) → ¬ Holds (first_of later) k)
    → Gives store session u w later own
gave_back store session u w hands later own within left view empty =
    let log : w.me.0.log ≡ u.me.0.log = ap (λ (v : View CoreEvent). v.log) view in
    record {
      stands = record {
        within = record {
          pass = left;
          knows = knows_same (shape_in store) session u.me.0 w.me.0 own log (ap (λ (v : View CoreEvent). v.sessions) view) (ap (λ (v : View CoreEvent). v.sole) view) within.knows;
        };
        empty = empty;
      };
      log = log;
      mine = ap (λ (v : View CoreEvent). v.mine) view;
      taken = ap (λ (v : View CoreEvent). v.taken) view;
      reads = (ap (λ (v : View CoreEvent). v.claim) view, ap (λ (v : View CoreEvent). v.claimed) view);
    }

-- ---- all together

-- what was taken stays so as the log goes on
pub took_further : (sh : Shape) (events : List CoreEvent) (old mid new : List Logged) (taken later : List ℕ)
    → TookPartsOf sh events old mid taken later → GoesOn mid new → TookPartsOf sh events old new taken later
took_further _ events old mid new taken later took on = record {
  parts = took.parts;
  took = took.took;
  touched = λ k is.
      let t = took.touched k is in
      record { event = t.event; is_one = t.is_one; log = t.log; saw = t.saw; left = goes_far t.log mid new t.left on; touches = t.touches };
}

-- a pass that thaws nothing is ready for an event that thaws nothing
pub ready : (store : StoreView) (session : ℕ) (t : SeatView) (hands : HandsView) (own : Option OwnTransaction) (thawed : Option ℕ)
    → thawed ≡ None → IsWithin store session t hands own → IsWithinAt (thawed_by thawed) store session t hands own
ready store session t hands own thawed none within = subst (λ (o : Option ℕ). IsWithinAt (thawed_by o) store session t hands own) (sym none) within

-- an event that its pass takes the parts for may be made on them
pub may_make_taken : (store : StoreView) (is_store : IsStore store) (s t : SeatView) (hands : HandsView) (e : CoreEvent) (session : ℕ) (own : Option OwnTransaction)
    → IsOfSession session e → thawed_part (shape_in store) e ≡ None → Stands (shape_in store) e (parts_seen (shape_in store) s.me.0) → FitsEach (shape_in store) e → IsFew s.me.0
    → Takes store session s t hands own e → MayMakeHeld store t hands e
may_make_taken store is_store s t hands e session own mine thawless stands fits few takes =
    let left : IsFew t.me.0 = let m = ap (λ (es : List (Entry CoreEvent)). length es) takes.mine in omega (arith, few, m) in
    record {
      session = session;
      own = own;
      within = ready store session t hands own (thawed_part (shape_in store) e) thawless takes.within;
      mine = mine;
      covers = takes.covers;
      stands = takes.stands e mine stands;
      fits = fits (parts_seen (shape_in store) t.me.0) takes.within.pass.of.1.sound (stamp_left store session t hands own takes.within is_store left);
      few = left;
    }

-- an event for which the pass took the parts may be made on them
pub may_make_held : (store : StoreView) (is_store : IsStore store) (s t : SeatView) (held hands : HandsView) (e : CoreEvent)
    → (may : MayMake store s held e) → Takes store may.session s t hands may.own e → MayMakeHeld store t hands e
may_make_held store is_store s t held hands e may takes =
    may_make_taken store is_store s t hands e may.session may.own may.mine may.thawless may.stands may.fits may.few takes

-- an event is whole once its parts were taken, it was made on them, and they were given back
pub made_whole : (store : StoreView) (session : ℕ) (s t u w : SeatView) (hands later ended : HandsView) (own : Option OwnTransaction) (e : CoreEvent) (told : CoreReply)
    → Takes store session s t hands own e → MakesHeld store session t u hands later own e told → Gives store session u w ended (own_behind own e told)
    → Makes store session s w ended own e told
made_whole store session s t u w hands later ended own e told takes held gives = record {
  stands = gives.stands;
  makes = subst (λ (l : List (Entry CoreEvent)). MakesOne (shape_in store) session (log_of s.me.0.log) (log_of l) e told) (sym gives.log)
      (saw_and_made (shape_in store) session (log_of s.me.0.log) (log_of t.me.0.log) (log_of u.me.0.log) e told takes.sees.goes_on takes.sees.same held.makes);
  refuses = held.refuses;
  count =
      let a = ap (λ (es : List (Entry CoreEvent)). length es) gives.mine in
      let b = held.count in
      let c = ap (λ (es : List (Entry CoreEvent)). length es) takes.mine in
      omega (arith, a, b, c);
  took = subst (λ later. TookPartsOf (shape_in store) (e ∷ []) (log_of s.me.0.log) (log_of w.me.0.log) s.me.0.taken later) (sym (gives.taken ∙ held.taken))
      (subst (λ (l : List (Entry CoreEvent)). TookPartsOf (shape_in store) (e ∷ []) (log_of s.me.0.log) (log_of l) s.me.0.taken t.me.0.taken) (sym gives.log)
      (took_further (shape_in store) (e ∷ []) (log_of s.me.0.log) (log_of t.me.0.log) (log_of u.me.0.log) s.me.0.taken t.me.0.taken takes.took
      (made_on (shape_in store) session (log_of t.me.0.log) (log_of u.me.0.log) e told held.makes)));
  reads = same_on takes.sees.reads (same_on held.reads gives.reads);
  lasting = λ stamp known. subst (λ (l : List (Entry CoreEvent)). IsOldest (shape_in store) stamp (replay (store_meaning (shape_in store)) l)) (sym gives.log)
      (held.lasting stamp (takes.lasting stamp known));
}
