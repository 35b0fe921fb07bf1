-- A compaction: looks at the blocks of a table one after another, and the move that they give.
use Rattle.std.proofs.Common.{◌≡◌, ◌⊎◌, ℕ, ◌+◌, ◌<◌, ◌≤◌, ◌^◌, ◌==◌, Bool, true, false, ◌||◌, List, [], ◌∷◌, ◌++◌, Some, Result, Ok, Err, length, map, refl, sym, ap, subst, ◌∙◌, append-nil, eq-eqb, eqb-true, true≢false, arith}
use mathlib.Core.Logic.{inl, inr}
use Rattle.std.specs.Prelude.{All, AllPairs, IfOk, IsErr, sum_by}
use Rattle.std.specs.List.{list_any}
use Rattle.std.proofs.lemmas.List.{append_assoc, length-map, map-append}
use Rattle.std.proofs.lemmas.List.Elements.{All-cons, All-head, All-tail, filter_map-append}
use Rattle.std.proofs.lemmas.List.Folds.{list_any-append}
use Rattle.std.proofs.lemmas.List.FromFn.{length-range_with_len}
use Rattle.std.proofs.lemmas.List.Sums.{sum_by-append}
use Rattle.block_spec.specs.Looks.{Look, looked}
use Rattle.compact_plan.proofs.Lists.{range_rises}
use Rattle.compact_plan.proofs.Planned.{plans_fit}
use Rattle.compact_plan.specs.Laws.{AreAscending, IsFitting, IsLookAt}
use Rattle.core_laws.proofs.Events.Lists.{below_member, member_map}
use Rattle.event_spec.specs.declared.event.Event.TheVariants as event
use Rattle.event_spec.specs.declared.event.MovePair.{MovePair}
use Rattle.event_spec.specs.declared.reply.Reply.TheVariants as reply
use Rattle.event_spec.specs.Effects.{CoreEvent}
use Rattle.event_spec.specs.Lawful.{Among, HasBlock, HasTable}
use Rattle.event_spec.specs.Parts.{Parts, Shape, below, blocks_of, body_at, slots_of}
use Rattle.event_spec.specs.Plans.{BlockLook, plan_of}
use Rattle.event_spec.specs.Replies.{CoreReply}
use Rattle.core_laws.specs.Frames.Shards.{CoreHolds}
use Rattle.run_spec.specs.Asked.{at_blocks, events_of, look_told, looks_in, moves}
use Rattle.run_spec.specs.Calls.{is_cut_short, is_memory, is_refused}
use Rattle.run_spec.specs.Occurrences.{Occurrence, events_in, replies_in}
use Rattle.run_spec.specs.Told.{moved_told}
use Rattle.store_laws.specs.Own.{entry_of, occurrence_at, parts_after}
use Rattle.workload_spec.specs.declared.command.Command.TheVariants.{Compact}
use Rattle.workload_spec.specs.declared.reply.Said.TheVariants as said
use Rattle.shared_store.specs.Compacting.{AddsLook, HaveLooked, Looks, MovesRows, PlansMoves, PlansTable, look_of, looking, move_reply}
use Rattle.shared_store.specs.Reading.{Went}
use Rattle.shared_store.specs.Store.{Answers, IsSession, IsTouched, MakesAtMost, StoreView, events_made, own_of, seen, shape_in, reads_of}
use Rattle.shared_store.specs.Sweeping.{MakesAlone, Sweeps}
use Rattle.shared_store.specs.Told.{compacted_told}
use Rattle.shared_store.specs.declared.session.Session.{Session}
use Rattle.shared_store.proofs.BlockReads.{holds_before}
use Rattle.shared_store.proofs.Calls.{told_or_memory}
use Rattle.shared_store.proofs.Scanned.{below_more, never, plain_cut, plain_cut_behind, plain_cut_ending, plain_granted, rest_of, went_call, went_more}
use Rattle.shared_store.proofs.Swept.{block_more, sweeps_nothing, sweeps_on}
use Rattle.shared_store.proofs.Claims.{keeps_same}
use Rattle.store_laws.specs.Stretches.{is_event}
use Rattle.std.proofs.lemmas.List.Sums.{count_by-le-length}

-- ---- a look

-- The reply of a look that saw this.
abbrev looked_reply : Look → CoreReply
looked_reply look = reply.Looked look

-- Replies of looks that are one saw the same.
same_look : (one other : Look) → looked_reply one ≡ looked_reply other → one ≡ other
same_look one other e = cc

-- The reply of a look is no want of memory.
never_memory : (look : Look) → looked_reply look ≡ reply.Memory → ⊥
never_memory look e = cc

-- what is seen of a block of the table
pub look_seen : (store : StoreView) (s new : Session) (t b : ℕ) (look : Look) → HasBlock (shape_in store) t b → MakesAlone store s new (looking t b) (reply.Looked look)
    → IsLookAt (shape_in store) t (look_of b look)
look_seen store s new t b look has m = record {
  block = has.1;
  body = body_at sh parts t b;
  look = same (told_or_memory store s.session s.pass.seat new.pass.seat new.pass.hands (own_of s) (looking t b) (reply.Looked look) m.makes);
  slots = (holds.sound.bodies t b has).slots;
}
  where
    sh : Shape
    sh = shape_in store

    parts : Parts
    parts = parts_after sh m.makes.makes.before

    holds : CoreHolds sh parts
    holds = holds_before sh m.makes.makes.before (entry_of s.session (looking t b) (reply.Looked look)) (seen new) m.makes.stands.within.pass.of.1.begins m.makes.makes.log m.session.lawful

    same : (looked_reply look ≡ reply.Memory) ⊎ (looked_reply look ≡ looked_reply (looked (body_at sh parts t b))) → look ≡ looked (body_at sh parts t b)
    same (inl e) = absurd (never_memory look e)
    same (inr e) = same_look look (looked (body_at sh parts t b)) e

-- a look replies nothing but what it saw or that there is no memory
pub looks_tell : (told : CoreReply) (seen : Look) → (told ≡ reply.Memory) ⊎ (told ≡ reply.Looked seen)
    → ((look : Look) → told ≡ reply.Looked look → ⊥) → (told ≡ reply.Memory → ⊥) → ⊥
looks_tell told seen (inl is) looked refused = refused is
looks_tell told seen (inr is) looked refused = looked seen is

-- nor a move anything but how many rows moved
pub moves_tell : (told : CoreReply) (count : ℕ) → (told ≡ reply.Memory) ⊎ (told ≡ reply.Moved count)
    → ((count : ℕ) → told ≡ reply.Moved count → ⊥) → (told ≡ reply.Memory → ⊥) → ⊥
moves_tell told count (inl is) moved refused = refused is
moves_tell told count (inr is) moved refused = moved count is

-- ---- events of more than were asked for

-- What is among the first of two lists is among both.
among_front : {X : Type 0} (x : X) (xs more : List X) → Among x xs → Among x (xs ++ more)
among_front x [] more is = absurd is
among_front x (y ∷ ys) more (inl same) = inl same
among_front x (y ∷ ys) more (inr is) = inr (among_front x ys more is)

-- The last element of a list is among it.
among_last : {X : Type 0} (xs : List X) (x : X) → Among x (xs ++ x ∷ [])
among_last [] x = inl refl
among_last (y ∷ ys) x = inr (among_last ys x)

-- A session that made some of the events made some of these and more.
went_wider : (store : StoreView) (old new : Session) (events more : List CoreEvent) (made : List Occurrence) → Went store old new events made → Went store old new (events ++ more) made
went_wider store old new events more made w = record {
  session = w.session;
  same = w.same;
  opened = w.opened;
  kept = w.kept;
  unwritten = w.unwritten;
  stretch = w.stretch;
  count = w.count;
  ends = w.ends;
  reads = w.reads;
  took = record {
    parts = w.took.parts;
    took = w.took.took;
    touched = λ k is. wider k (w.took.touched k is);
  };
}
  where
    wider : (k : ℕ) → IsTouched (shape_in store) events (seen old) (seen new) k → IsTouched (shape_in store) (events ++ more) (seen old) (seen new) k
    wider k t = record { event = t.event; is_one = among_front t.event events more t.is_one; log = t.log; saw = t.saw; left = t.left; touches = t.touches }

module _ (store : StoreView) (t : ℕ) where
  -- The shape of the store's core.
  abbrev sh : Shape
  sh = shape_in store

  -- The looks at all blocks of the table.
  abbrev asked : List CoreEvent
  asked = at_blocks sh t (looking t)

  -- The moves that the looks among some events give.
  abbrev moved_by : List Occurrence → List CoreEvent
  moved_by made = moves t (plan_of (looks_in made))

  -- ---- looks one after another

  -- before the first block nothing was looked at
  pub looks_begin : (s : Session) → IsSession store s → Looks store s s t 0 []
  looks_begin s is = sweeps_nothing store asked (HaveLooked []) s is (record { looks_are = refl; unmoved = refl })

  -- The look at each block of the table is among those that are asked.
  is_asked : (k : ℕ) → k < blocks_of sh t → Among {X = CoreEvent} (looking t k) asked
  is_asked k lt = member_map (looking t) (below (blocks_of sh t)) k (below_member 0 (blocks_of sh t) k (omega arith) (omega (arith, lt)))

  -- One look more has seen, behind what was seen before, what it tells.
  look_more : (k : ℕ) (look : Look) (looks : List BlockLook) (session : ℕ) (parts : Parts) (made : List Occurrence) → HaveLooked looks made
      → HaveLooked (looks ++ look_of k look ∷ []) (made ++ occurrence_at session parts (looking t k) (reply.Looked look) ∷ [])
  look_more k look looks session parts made known = record {
    looks_are = ap (λ (ls : List BlockLook). ls ++ look_of k look ∷ []) known.looks_are ∙ sym (filter_map-append (λ (o : Occurrence). look_told o.event o.reply) made (last ∷ []));
    unmoved =
        let a = ap (sum_by moved_told) (map-append (λ (o : Occurrence). o.reply) made (last ∷ [])) in
        let d : sum_by moved_told (replies_in made ++ reply.Looked look ∷ []) ≡ sum_by moved_told (replies_in made) + 0 = sum_by-append moved_told (replies_in made) (reply.Looked look ∷ []) in
        let k = known.unmoved in
        omega (arith, a, d, k);
  }
    where
      last : Occurrence
      last = occurrence_at session parts (looking t k) (reply.Looked look)

  -- one block more was looked at, and what was seen of it stands behind the rest
  pub looks_on : (first mid new : Session) (k : ℕ) (look : Look) (looks : List BlockLook) → Looks store first mid t k looks → MakesAlone store mid new (looking t k) (reply.Looked look)
      → k < blocks_of sh t → Looks store first new t (k + 1) (looks ++ look_of k look ∷ [])
  looks_on first mid new k look looks s m lt =
      subst (λ (es : List CoreEvent). Sweeps store asked (HaveLooked (looks ++ look_of k look ∷ [])) first new es) (block_more sh looking t k)
      (sweeps_on store asked (HaveLooked looks) (HaveLooked (looks ++ look_of k look ∷ [])) first mid new (map (looking t) (below k)) (looking t k) (reply.Looked look) s m
      (is_asked k lt) refl refl refl refl (look_more k look looks first.session))

  -- ---- no memory

  -- A compaction that was cut short after some looks answers that there was no memory.
  lost : (old new : Session) (k : ℕ) (made : List Occurrence) → IsSession store old → k ≤ blocks_of sh t → Went store old new asked made
      → events_in made ≡ map (looking t) (below k) → is_cut_short made ≡ true → Answers store old new (Compact t) said.Memory
  lost old new k made is le w events cut = went_call store old new (Compact t) (asked ++ moved_by made) made said.Memory is (went_wider store old new asked (moved_by made) made w) refl refl refl (inr (record {
    may = refl;
    missed = map (looking t) rest ++ moved_by made;
    events = ap (λ (es : List CoreEvent). es ++ moved_by made)
        (ap (map (looking t)) (rest_of (blocks_of sh t) k le).1 ∙ map-append (looking t) (below k) rest ∙ ap (λ (es : List CoreEvent). es ++ map (looking t) rest) (sym events))
        ∙ append_assoc (events_in made) (map (looking t) rest) (moved_by made);
    cut = cut;
    line = refl;
  }))
    where
      rest : List ℕ
      rest = (rest_of (blocks_of sh t) k le).0

  -- a look was refused memory, or there was none for what it saw
  pub looks_lost : (old mid new : Session) (k : ℕ) (looks : List BlockLook) (told : CoreReply) → IsSession store old → k < blocks_of sh t → Looks store old mid t k looks
      → MakesAlone store mid new (looking t k) told → Answers store old new (Compact t) said.Memory
  looks_lost old mid new k looks told is lt s m = lost old new (k + 1) (s.made ++ last ∷ []) is (omega (arith, lt))
      (went_more store old mid new (looking t k) told asked s.made s.went m.session m.same m.opened m.kept m.makes.makes m.makes.count m.makes.took (is_asked k lt) refl refl (keeps_same m.makes.reads))
      (map-append (λ (o : Occurrence). o.event) s.made (last ∷ []) ∙ ap (λ (es : List CoreEvent). es ++ looking t k ∷ []) s.events_are ∙ block_more sh looking t k)
      (plain_cut_behind s.made last s.plain refl)
    where
      last : Occurrence
      last = occurrence_at old.session (parts_after sh m.makes.makes.before) (looking t k) told

  -- there was none for the plan
  pub plan_lost : (old new : Session) (looks : List BlockLook) → IsSession store old → Looks store old new t (blocks_of sh t) looks → Answers store old new (Compact t) said.Memory
  plan_lost old new looks is s = lost old new (blocks_of sh t) s.made is (omega arith) s.went s.events_are (plain_cut s.made s.plain)

  -- ---- the move

  module _ (old mid : Session) (looks : List BlockLook) (is : IsSession store old) (s : Looks store old mid t (blocks_of sh t) looks) where
    -- there is none
    pub unmoved : plan_of looks ≡ [] → Answers store old mid (Compact t) (said.Moved 0)
    unmoved none' = went_call store old mid (Compact t) (asked ++ moved_by s.made) s.made (said.Moved 0) is (went_wider store old mid asked (moved_by s.made) s.made s.went) refl refl refl (inl (record {
      events = s.events_are ∙ sym (append-nil asked) ∙ ap (λ (pairs : List MovePair). asked ++ moves t pairs) (sym (ap plan_of (sym s.told.looks_are) ∙ none'));
      granted = plain_granted s.made s.plain;
      line = ap (λ n. Some (said.Moved n)) (sym s.told.unmoved);
    }))

    module _ (new : Session) (pair : MovePair) (pairs : List MovePair) (told : CoreReply) (plan : plan_of looks ≡ pair ∷ pairs) (m : MakesAlone store mid new (event.Move t (pair ∷ pairs)) told) where
      abbrev move : CoreEvent
      move = event.Move t (pair ∷ pairs)

      abbrev last : Occurrence
      last = occurrence_at old.session (parts_after sh m.makes.makes.before) move told

      abbrev made : List Occurrence
      made = s.made ++ last ∷ []

      went : Went store old new (asked ++ move ∷ []) made
      went = went_more store old mid new move told (asked ++ move ∷ []) s.made (went_wider store old mid asked (move ∷ []) s.made s.went) m.session m.same m.opened m.kept m.makes.makes m.makes.count m.makes.took
          (among_last asked move) refl refl (keeps_same m.makes.reads)

      planned_same : plan_of (looks_in made) ≡ pair ∷ pairs
      planned_same = ap plan_of (filter_map-append (λ (o : Occurrence). look_told o.event o.reply) s.made (last ∷ []) ∙ append-nil (looks_in s.made) ∙ sym s.told.looks_are) ∙ plan

      asks : events_of sh (own_of old) (reads_of old) old.session (Compact t) made ≡ asked ++ move ∷ []
      asks = ap (λ (pairs : List MovePair). asked ++ moves t pairs) planned_same

      events : events_in made ≡ asked ++ move ∷ []
      events = map-append (λ (o : Occurrence). o.event) s.made (last ∷ []) ∙ ap (λ (es : List CoreEvent). es ++ move ∷ []) s.events_are

      -- a compaction whose move was made answers with how many rows moved
      pub moved : (count : ℕ) → told ≡ reply.Moved count → Answers store old new (Compact t) (said.Moved count)
      moved count told_is = went_call store old new (Compact t) (asked ++ move ∷ []) made (said.Moved count) is went asks refl refl (inl (record {
        events = events ∙ sym asks;
        granted = list_any-append is_refused s.made (last ∷ []) ∙ ap (λ b. b || list_any is_refused (last ∷ [])) (plain_granted s.made s.plain) ∙ ap (λ r. is_memory r || false) told_is;
        line = ap (λ n. Some (said.Moved n)) (sym sum);
      }))
        where
          sum : sum_by moved_told (replies_in made) ≡ count
          sum =
              let a = ap (sum_by moved_told) (map-append (λ (o : Occurrence). o.reply) s.made (last ∷ [])) in
              let d : sum_by moved_told (replies_in s.made ++ told ∷ []) ≡ sum_by moved_told (replies_in s.made) + (0 + moved_told told) = sum_by-append moved_told (replies_in s.made) (told ∷ []) in
              let here : moved_told told ≡ count = ap moved_told told_is in
              let none' = s.told.unmoved in
              omega (arith, a, d, here, none')

      -- the move was refused memory
      pub move_lost : told ≡ reply.Memory → Answers store old new (Compact t) said.Memory
      move_lost told_is = went_call store old new (Compact t) (asked ++ move ∷ []) made said.Memory is went asks refl refl (inr (record {
        may = refl;
        missed = [];
        events = asks ∙ sym events ∙ sym (append-nil (events_in made));
        cut = plain_cut_ending s.made last s.plain (ap (λ r. is_memory r || false) told_is);
        line = refl;
      }))

  -- a compaction whose moves were planned and made answers with what came of the move
  pub compacted : {E : Type 0} (old mid new : Session) (pairs : List MovePair) (result : Result ℕ E) → IsSession store old → PlansMoves store old mid t pairs → MovesRows store mid new t pairs result
      → Answers store old new (Compact t) (compacted_told result)
  compacted {E = E} old mid new [] result is p m =
      subst (λ (r : Result ℕ E). Answers store old new (Compact t) (compacted_told r)) (sym m.1)
      (subst (λ (s : Session). Answers store old s (Compact t) (said.Moved 0)) (sym m.0) (unmoved old mid p.looks is p.looked (sym p.plan)))
  compacted old mid new (pair ∷ pairs) (Ok count) is p m = moved old mid p.looks is p.looked new pair pairs (reply.Moved count) (sym p.plan) m count refl
  compacted old mid new (pair ∷ pairs) (Err memory) is p m = move_lost old mid p.looks is p.looked new pair pairs reply.Memory (sym p.plan) m refl

-- ---- the numbers of what was seen

-- the numbers of the blocks that were looked at
abbrev pub blocks_in : List BlockLook → List ℕ
blocks_in looks = map (λ (look : BlockLook). look.block) looks

-- one look more adds the next block's number
pub blocks_added : (n : ℕ) (look : Look) (looks : List BlockLook) → blocks_in looks ≡ below n → blocks_in (looks ++ look_of n look ∷ []) ≡ below (n + 1)
blocks_added n look looks is =
    map-append (λ (look : BlockLook). look.block) looks (look_of n look ∷ []) ∙ ap (λ (bs : List ℕ). bs ++ n ∷ []) is ∙ sym (below_more n)

-- the blocks that were looked at one after another have rising numbers
pub blocks_rise : (n : ℕ) (looks : List BlockLook) → blocks_in looks ≡ below n → AreAscending looks
blocks_rise n looks is = subst (λ (bs : List ℕ). AllPairs (λ one other. one < other) bs) (sym is) (range_rises n)

-- ---- what was seen, and the plan of it

-- What all of a list and one more have, all with that one have.
all_added : {X : Type 0} (P : X → Type 0) (xs : List X) (x : X) → All P xs → P x → All P (xs ++ x ∷ [])
all_added P [] x all here = All-cons P x [] here all
all_added P (y ∷ ys) x all here = All-cons P y (ys ++ x ∷ []) (All-head P y ys all) (all_added P ys x (All-tail P y ys all) here)

-- each look is one event at most
pub looks_count : (store : StoreView) (t k : ℕ) (old new : Session) (looks : List BlockLook) → Looks store old new t k looks → events_made new ≤ events_made old + k
looks_count store t k old new looks s =
    let a : length (events_in s.made) ≡ length s.made = length-map s.made (λ (o : Occurrence). o.event) in
    let b : length {A = CoreEvent} (map (looking t) (below k)) ≡ length (below k) = length-map (below k) (looking t) in
    let c : length (below k) ≡ k = length-range_with_len 0 k in
    let d = ap (λ (es : List CoreEvent). length es) s.events_are in
    let n = s.went.count in
    let few = count_by-le-length is_event s.made in
    omega (arith, a, b, c, d, n, few)

-- a table whose blocks were all looked at has the plan of what was seen, or memory lacked
pub planned : {E : Type 0} (store : StoreView) (t : ℕ) (old new : Session) (looks : List BlockLook) (result : Result (List MovePair) E) → IsSession store old → HasTable (shape_in store) t
    → slots_of (shape_in store) t ≤ 2 ^ 15 → Looks store old new t (blocks_of (shape_in store) t) looks → All (IsLookAt (shape_in store) t) looks
    → blocks_in looks ≡ below (blocks_of (shape_in store) t) → IfOk result (λ pairs. pairs ≡ plan_of looks) → PlansTable store old new t result
planned store t old new looks (Ok pairs) is table few s seen blocks same = record {
  looks = looks;
  looked = s;
  plan = same;
  fits = subst (IsFitting (shape_in store) t) (sym same) (plans_fit (shape_in store) t looks table few seen (blocks_rise (blocks_of (shape_in store) t) looks blocks));
}
planned store t old new looks (Err memory) is table few s seen blocks same = plan_lost store t old new looks is s

-- no memory for a look
pub unplanned : {E : Type 0} (store : StoreView) (old new : Session) (t : ℕ) (result : Result (List MovePair) E) → IsErr result → Answers store old new (Compact t) said.Memory → PlansTable store old new t result
unplanned store old new t (Ok pairs) is lost = absurd (never is)
unplanned store old new t (Err memory) is lost = lost

-- a compaction without an answer is told as want of memory
pub uncompacted : {E : Type 0} (r : Result ℕ E) → IsErr r → compacted_told r ≡ said.Memory
uncompacted (Ok count) is = absurd (never is)
uncompacted (Err memory) is = refl

-- ---- what moves

-- a plan that tests as empty has no move
pub no_pairs : (pairs : List MovePair) (none' : Bool) → none' ≡ (length pairs == 0) → none' ≡ true → length pairs ≡ 0
no_pairs pairs none' is tells = eqb-true (length pairs) 0 (sym is ∙ tells)

-- a plan that does not test as empty has a move
pub some_pairs : (pairs : List MovePair) (none' : Bool) → none' ≡ (length pairs == 0) → none' ≡ false → length pairs ≡ 0 → ⊥
some_pairs pairs none' is tells empty = true≢false (sym (eq-eqb (length pairs) 0 empty) ∙ sym is ∙ tells)

-- where nothing is to be moved, nothing was done
pub moves_none : (store : StoreView) (s : Session) (t : ℕ) (E : Type 0) (pairs : List MovePair) → length pairs ≡ 0 → MovesRows {E = E} store s s t pairs (Ok 0)
moves_none store s t E [] none' = (refl, refl)
moves_none store s t E (pair ∷ pairs) none' = absurd (omega (arith, none'))

-- where something is to be moved, it was moved by one event
pub moves_some : {E : Type 0} (store : StoreView) (old new : Session) (t : ℕ) (pairs : List MovePair) (result : Result ℕ E) → (length pairs ≡ 0 → ⊥)
    → MakesAlone store old new (event.Move t pairs) (move_reply result) → MovesRows store old new t pairs result
moves_some store old new t [] result some alone = absurd (some refl)
moves_some store old new t (pair ∷ pairs) result some alone = alone

-- behind the moves it is the same session of the store
pub moves_session : {E : Type 0} (store : StoreView) (old new : Session) (t : ℕ) (pairs : List MovePair) (result : Result ℕ E) → IsSession store old → MovesRows store old new t pairs result
    → IsSession store new × (new.session ≡ old.session)
moves_session store old new t [] result is m = (subst (IsSession store) (sym m.0) is, ap (λ (s : Session). s.session) m.0)
moves_session store old new t (pair ∷ pairs) result is m = (m.session, m.same)

-- the moves make one event at most
pub moves_few : {E : Type 0} (store : StoreView) (old new : Session) (t : ℕ) (pairs : List MovePair) (result : Result ℕ E) → MovesRows store old new t pairs result → MakesAtMost 1 old new
moves_few store old new t [] result m = let same = ap (λ (s : Session). events_made s) m.0 in omega (arith, same)
moves_few store old new t (pair ∷ pairs) result m = let one = m.makes.count in omega (arith, one)

-- one look more
pub looks_go_on : (store : StoreView) (t : ℕ) (first mid new : Session) (k : ℕ) (looks now : List BlockLook) (told : CoreReply) → Looks store first mid t k looks
    → All (IsLookAt (shape_in store) t) looks → blocks_in looks ≡ below k → MakesAlone store mid new (looking t k) told → AddsLook (shape_in store) t k told looks now → k < blocks_of (shape_in store) t
    → Looks store first new t (k + 1) now × All (IsLookAt (shape_in store) t) now × (blocks_in now ≡ below (k + 1))
looks_go_on store t first mid new k looks now told s seen blocks alone adds lt =
    let more = looks ++ look_of k adds.look ∷ [] in
    subst (λ (ls : List BlockLook). Looks store first new t (k + 1) ls × All (IsLookAt (shape_in store) t) ls × (blocks_in ls ≡ below (k + 1))) (sym adds.now_is) (
      looks_on store t first mid new k adds.look looks s (subst (λ (r : CoreReply). MakesAlone store mid new (looking t k) r) adds.told_is alone) lt,
      all_added (IsLookAt (shape_in store) t) looks (look_of k adds.look) seen adds.seen,
      blocks_added k adds.look looks blocks,
    )
