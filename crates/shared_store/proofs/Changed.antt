-- A change of a row: on the parts that its pass holds, with these parts, and as a call.
use Rattle.std.proofs.Common.{◌≡◌, ◌⊎◌, ℕ, ◌≤◌, ℤ, Bool, true, false, cond, not, ◌||◌, ◌&&◌, List, [], ◌∷◌, ◌++◌, Option, None, Some, length, map, refl, sym, ap, subst, ◌∙◌, append-nil, append_assoc, length-append, true≢false, arith}
use mathlib.Core.Logic.{inl, inr}
use Rattle.std.specs.Prelude.{fold, option_and_then, option_to_list}
use Rattle.std.specs.BTreeMap.{insert_entry}
use Rattle.std.proofs.lemmas.List.{length-map}
use Rattle.engine_core.specs.Asks.{HasKeyParts, IsOfCore}
use Rattle.core_laws.proofs.Events.Lists.{in_right}
use Rattle.core_laws.specs.Following.Laws.{command_of}
use Rattle.core_laws.specs.Words.Words.{thawed_part}
use Rattle.event_spec.specs.declared.event.Event.TheVariants as event
use Rattle.event_spec.specs.declared.own.OwnTransaction.{OwnTransaction}
use Rattle.event_spec.specs.declared.reply.Reply.TheVariants as reply
use Rattle.event_spec.specs.Effects.{CoreEvent, change_judged, effect}
use Rattle.event_spec.specs.Lawful.{FitsTable, HasTable, IsThawed}
use Rattle.event_spec.specs.Parts.{Parts, Shape, ShardOf, part_at, shard_of}
use Rattle.event_spec.specs.Replay.{after, opening, reply_after}
use Rattle.event_spec.specs.Replies.{CoreReply, reply_to_write}
use Rattle.event_spec.specs.Touched.{touching}
use Rattle.block_spec.specs.Slots.{Row}
use Rattle.hall_rule.specs.Hands.{Agrees, Covers}
use Rattle.hall_rule.specs.declared.view.Entry.{Entry}
use Rattle.hall_steps.specs.Hall.{first_of}
use Rattle.isolation_spec.specs.Contents.{key_of, place_at, place_cmp, place_of}
use Rattle.isolation_spec.specs.declared.command.Act.TheVariants as act
use Rattle.isolation_spec.specs.declared.place.Place.{Place}
use Rattle.store_laws.proofs.Going.{keys}
use Rattle.store_laws.specs.OwnLaws.{HasOpened}
use Rattle.run_spec.specs.Asked.{events_of, imaged_block, parts_before, thaws}
use Rattle.run_spec.specs.Calls.{Call, IsCallBy, IsPart, IsWhole, is_final, is_memory, reads_behind}
use Rattle.run_spec.specs.Handed.{GoesOn, own_in}
use Rattle.run_spec.specs.Occurrences.{Logged, Occurrence, events_in, replies_in}
use Rattle.run_spec.specs.Opened.{own_behind, own_key}
use Rattle.run_spec.specs.Told.{refusal_of, told_by}
use Rattle.store_laws.proofs.Calling.{goes_far, made_on}
use Rattle.store_laws.proofs.Entries.{replay_same}
use Rattle.store_laws.proofs.Machines.{quiet_on}
use Rattle.store_laws.proofs.Making.{refused_keeps}
use Rattle.store_laws.proofs.Stepping.{open_on}
use Rattle.store_laws.specs.Logs.{log_of, made_in}
use Rattle.store_laws.specs.Machines.{HasOpenIn, machine_after}
use Rattle.store_laws.specs.Own.{entry_of, occurrence_at, parts_after}
use Rattle.workload_spec.specs.declared.command.Command.{Command}
use Rattle.workload_spec.specs.declared.command.Command.TheVariants as command
use Rattle.workload_spec.specs.declared.reply.Said.{Said}
use Rattle.workload_spec.specs.declared.reply.Said.TheVariants as said
use Rattle.shared_store.specs.Changing.{Changes, ChangesHeld, HasMade, IsChangeBy, IsChangeOf, IsChangeTo}
use Rattle.shared_store.specs.Making.{Gives, IsFew, MakesHeld, MayMakeHeld, MayThawHeld, Takes, parts_seen}
use Rattle.shared_store.specs.Store.{Answers, EndsWithLast, HandsView, IsAt, IsSession, IsWithin, SeatView, StoreView, TookPartsOf, own_of, seen, shape_in, taken_by, reads_of, wrote_of}
use Rattle.shared_store.specs.Commits.{written_behind}
use Rattle.shared_store.specs.Writing.{IsWriteReply, is_written}
use Rattle.shared_store.specs.declared.session.Session.{Session}
use Rattle.shared_store.proofs.Along.{change_along, nothing_along}
use Rattle.shared_store.proofs.Calls.{own_stands}
use Rattle.shared_store.proofs.Hands.{agrees_with}
use Rattle.shared_store.proofs.Made.{memory_is, one_hand, ready, took_further}
use Rattle.shared_store.proofs.Thaws.{covers_same, imaged_there, row_parts, shard_same, still_covered, thaw_covered, thawed_behind}
use Rattle.shared_store.proofs.Sessions.{session_is}
use Rattle.shared_store.proofs.Calls.{all_events, ends_call, write_unshared}
use Rattle.shared_store.proofs.Claims.{keeps_same, same_on}
use Rattle.run_spec.specs.Told.{is_shared}
use Rattle.store_laws.proofs.Lends.{no_image_told}
use Rattle.store_laws.proofs.Stretches.{events_are_a_stretch}
use Rattle.shared_store.proofs.Wrote.{writes_reply}
use Rattle.shared_store.specs.Reads.{ReadsFit}

-- ---- what may be made on the parts of a change

module _ (store : StoreView) (session : ℕ) (t : SeatView) (hands : HandsView) (own : Option OwnTransaction) (place : Place) (write : CoreEvent)
    (within : IsWithin store session t hands own) (change : IsChangeOf (shape_in store) session own place write)
    (covers : Covers (touching (shape_in store) write) (first_of hands))
  where
    abbrev shape : Shape
    shape = shape_in store

    abbrev now : Parts
    now = parts_seen shape t.me.0

    -- the parts in the hand are those that the pass's log leaves
    pub agrees_here : Agrees (first_of hands) now
    agrees_here = agrees_with store t hands within.pass (one_hand store session t hands own within)

    -- the parts in the hand are those of a core that holds
    pub core_here : IsOfCore shape (first_of hands)
    core_here = record { parts = now; holds = within.pass.of.1.sound; agrees = agrees_here }

    -- with the parts of the change those of a get of its row are held
    pub get_covered : Covers (touching shape (event.Get change.handed place.table place.key)) (first_of hands)
    get_covered = covers_same shape write (event.Get change.handed place.table place.key) (first_of hands) change.touches covers

    -- the hand has what tells where the row lies
    pub row_here : HasKeyParts shape (first_of hands) place.table place.key
    row_here = row_parts shape (first_of hands) now agrees_here change.handed place.table place.key get_covered within.pass.of.1.sound change.table

    -- the write may be made where the row's block is not imaged
    pub may_write : IsThawed shape place.table place.key now → IsFew t.me.0 → MayMakeHeld store t hands write
    may_write thawed few = record {
      session = session;
      own = own;
      within = ready store session t hands own (thawed_part shape write) change.thawless within;
      mine = change.mine;
      covers = covers;
      stands = change.stands now within.knows.opened;
      fits = change.fits now thawed;
      few = few;
    }

    -- the row's imaged block may be thawed on the parts that are held
    pub may_thaw : (b : ℕ) → imaged_block shape place.table place.key now ≡ Some b → IsFew t.me.0 → MayThawHeld store t hands place.table b
    may_thaw b is few =
        let there = imaged_there shape (first_of hands) now agrees_here change.handed place.table place.key get_covered within.pass.of.1.sound b is in
        record {
          session = session;
          own = own;
          within = within;
          covers = thaw_covered shape (first_of hands) now agrees_here change.handed place.table place.key get_covered b is;
          has = there.0;
          imaged = there.1;
          few = few;
        }

-- what a log with an entry more leaves
parts_on : (sh : Shape) (parts : Parts) (log : List Logged) (entry : Logged)
    → fold (after sh) parts (made_in (log ++ entry ∷ [])) ≡ after sh (fold (after sh) parts (made_in log)) entry.made
parts_on sh parts [] entry = refl
parts_on sh parts (first ∷ log) entry = parts_on sh (after sh parts first.made) log entry

-- ---- behind the thaw

module _ (store : StoreView) (session : ℕ) (t u : SeatView) (hands later : HandsView) (own : Option OwnTransaction) (place : Place) (write : CoreEvent)
    (within : IsWithin store session t hands own) (change : IsChangeOf (shape_in store) session own place write)
    (covers : Covers (touching (shape_in store) write) (first_of hands))
    (b : ℕ) (thaw_told : CoreReply) (n : MakesHeld store session t u hands later own (event.Thaw place.table b) thaw_told) (granted : is_memory thaw_told ≡ false)
    (is : imaged_block (shape_in store) place.table place.key (parts_after (shape_in store) n.makes.before) ≡ Some b)
  where
    abbrev before : Parts
    before = parts_after (shape_in store) n.makes.before

    behind_is : parts_seen (shape_in store) u.me.0 ≡ effect (shape_in store) before (event.Thaw place.table b)
    behind_is =
        replay_same (shape_in store) u.me.0.log
        ∙ ap (parts_after (shape_in store)) n.makes.log
        ∙ parts_on (shape_in store) (opening (shape_in store)) n.makes.before (entry_of session (event.Thaw place.table b) thaw_told)
        ∙ ap (λ r. after (shape_in store) before (record { event = event.Thaw place.table b; refused = r })) granted

    -- behind the thaw the row's block is not imaged, as the pass sees it
    pub thawed_now : IsThawed (shape_in store) place.table place.key (parts_seen (shape_in store) u.me.0)
    thawed_now = subst (IsThawed (shape_in store) place.table place.key) (sym behind_is) (thawed_behind (shape_in store) before place.table b place.key is)

    -- the parts of the change are held behind the thaw still
    pub covered_still : Covers (touching (shape_in store) write) (first_of later)
    covered_still = covers_same (shape_in store) (event.Get change.handed place.table place.key) write (first_of later) (λ held name. sym (change.touches held name))
        (still_covered (shape_in store) (first_of hands) (first_of later) before (parts_seen (shape_in store) u.me.0)
        n.agrees (agrees_with store u later n.within.pass (one_hand store session u later own n.within)) n.room
        change.handed place.table place.key
        (ap (λ (s : Parts). part_at (shape_in store) s (ShardOf place.table (shard_of place.key))) behind_is ∙ shard_same (shape_in store) before place.table b place.table (shard_of place.key))
        (get_covered store session t hands own place write within change covers))

-- ---- what was made

module _ (store : StoreView) (session : ℕ) (own : Option OwnTransaction) (place : Place) (write : CoreEvent)
    (change : IsChangeOf (shape_in store) session own place write)
  where
    abbrev sh : Shape
    sh = shape_in store

    told_as_write : (parts : Parts) (told : CoreReply) → told ≡ reply_after sh parts (entry_of session write told).made → IsWriteReply told
    told_as_write parts told is = go (is_memory told) is
      where
        go : (r : Bool) → told ≡ reply_after sh parts (record { event = write; refused = r }) → IsWriteReply told
        go true e = subst IsWriteReply (sym e) tt
        go false e = subst IsWriteReply (sym e) (change.replies parts)

    -- the write alone
    pub made_alone : (t u : SeatView) (hands later : HandsView) (told : CoreReply) (m : MakesHeld store session t u hands later own write told)
        → imaged_block sh place.table place.key (parts_after sh m.makes.before) ≡ None → ChangesHeld store session t u later own place write told
    made_alone t u hands later told m none' = record {
      within = m.within;
      change = record {
        made = occurrence_at session (parts_after sh m.makes.before) write told ∷ [];
        has_made = record {
          missed = [];
          events = ap (λ (o : Option ℕ). map (event.Thaw place.table) (option_to_list o) ++ write ∷ []) none';
          refused = λ is. ap (λ r. r || not (is_final write)) is;
          granted = λ is. (refl, ap (λ r. r || false) is);
          last = refl;
        };
        replies = told_as_write (parts_after sh m.makes.before) told m.makes.reply;
        goes_on = made_on sh session (log_of t.me.0.log) (log_of u.me.0.log) write told m.makes;
        own = m.makes.own;
        count = m.count;
        ends = λ event'. (m.makes.before, m.makes.log);
        reads = m.reads;
        events = ap (λ b. not b && true) (write_unshared told (told_as_write (parts_after sh m.makes.before) told m.makes.reply));
        writes = λ change' is commits wrote has.
            change_along store session t u later (own_behind own write told) write told m.within m.makes commits wrote has place change' is
            (told_as_write (parts_after sh m.makes.before) told m.makes.reply);
      };
      taken = m.taken;
    }

    module _ (t u : SeatView) (hands later : HandsView) (b : ℕ) (thaw_told : CoreReply) (n : MakesHeld store session t u hands later own (event.Thaw place.table b) thaw_told)
        (is : imaged_block sh place.table place.key (parts_after sh n.makes.before) ≡ Some b)
      where
        abbrev thaw : CoreEvent
        thaw = event.Thaw place.table b

        abbrev thawing : Occurrence
        thawing = occurrence_at session (parts_after sh n.makes.before) thaw thaw_told

        thaw_unshared : is_shared thaw_told ≡ false
        thaw_unshared = ap is_shared n.makes.reply ∙ no_image_told sh (parts_after sh n.makes.before) thaw (is_memory thaw_told) refl

        -- the thaw, for which there was no memory
        pub made_none : is_memory thaw_told ≡ true → ChangesHeld store session t u later own place write reply.Memory
        made_none memory = record {
          within = subst (IsWithin store session u later) (sym (refused_keeps own write change.takes)) n.within;
          change = record {
            made = thawing ∷ [];
            has_made = record {
              missed = write ∷ [];
              events = ap (λ (o : Option ℕ). map (event.Thaw place.table) (option_to_list o) ++ write ∷ []) is;
              refused = λ r. ap (λ x. x || not (is_final thaw)) memory;
              granted = λ r. absurd (true≢false r);
              last = ap (λ (x : CoreReply). Some x) (memory_is thaw_told memory);
            };
            replies = tt;
            goes_on = made_on sh session (log_of t.me.0.log) (log_of u.me.0.log) thaw thaw_told n.makes;
            own = n.makes.own;
            count = n.count;
            ends = λ event'. (n.makes.before, n.makes.log);
            reads = n.reads;
            events = ap (λ b. not b && true) thaw_unshared;
            writes = λ change' asks commits wrote has. nothing_along store session t u later own thaw thaw_told n.within n.makes commits wrote has refl;
          };
          taken = n.taken;
        }

        -- the thaw and the write
        pub made_both : is_memory thaw_told ≡ false → (w : SeatView) (last : HandsView) (told : CoreReply) → MakesHeld store session u w later last own write told
            → ChangesHeld store session t w last own place write told
        made_both granted w last told m =
            let writing = occurrence_at session (parts_after sh m.makes.before) write told in
            record {
              within = m.within;
              change = record {
                made = thawing ∷ writing ∷ [];
                has_made = record {
                  missed = [];
                  events = ap (λ (o : Option ℕ). map (event.Thaw place.table) (option_to_list o) ++ write ∷ []) is;
                  refused = λ r. ap (λ x. not (x || false) && (is_memory told || not (is_final write))) granted ∙ ap (λ x. x || not (is_final write)) r;
                  granted = λ r. (refl, ap (λ x. x || (is_memory told || false)) granted ∙ ap (λ x. x || false) r);
                  last = refl;
                };
                replies = told_as_write (parts_after sh m.makes.before) told m.makes.reply;
                goes_on = goes_far (log_of t.me.0.log) (log_of u.me.0.log) (log_of w.me.0.log)
                    (made_on sh session (log_of t.me.0.log) (log_of u.me.0.log) thaw thaw_told n.makes)
                    (made_on sh session (log_of u.me.0.log) (log_of w.me.0.log) write told m.makes);
                own = m.makes.own ∙ ap (λ (os : List Occurrence). os ++ writing ∷ []) n.makes.own
                    ∙ append_assoc (own_in sh session (log_of t.me.0.log)) (thawing ∷ []) (writing ∷ []);
                count = let one = n.count in let two = m.count in omega (arith, one, two);
                ends = λ event'. (m.makes.before, m.makes.log);
                reads = same_on n.reads m.reads;
                events = ap (λ b. not b && (not (is_shared told) && true)) thaw_unshared ∙ ap (λ b. not b && true) (write_unshared told (told_as_write (parts_after sh m.makes.before) told m.makes.reply));
                writes = λ change' asks commits wrote has.
                    change_along store session u w last (own_behind own write told) write told m.within m.makes commits wrote
                    (nothing_along store session t u later own thaw thaw_told n.within n.makes commits wrote has refl) place change' asks
                    (told_as_write (parts_after sh m.makes.before) told m.makes.reply);
              };
              taken = m.taken ∙ n.taken;
            }

-- ---- all together

-- parts of some events are parts of more of them
took_wider : (sh : Shape) (more events : List CoreEvent) (old new : List Logged) (taken later : List ℕ)
    → TookPartsOf sh events old new taken later → TookPartsOf sh (more ++ events) old new taken later
took_wider _ more events old new taken later took = record {
  parts = took.parts;
  took = took.took;
  touched = λ k is.
      let t = took.touched k is in
      record { event = t.event; is_one = in_right more events t.event t.is_one; log = t.log; saw = t.saw; left = t.left; touches = t.touches };
}

-- a change is whole once its parts were taken, it was made on them, and they were given back
pub changed_whole : (store : StoreView) (session : ℕ) (s t u w : SeatView) (hands later ended : HandsView) (own : Option OwnTransaction) (place : Place) (write : CoreEvent) (told : CoreReply)
    → Takes store session s t hands own write → ChangesHeld store session t u later own place write told → Gives store session u w ended (own_behind own write told)
    → Changes store session s w ended own place write told
changed_whole store session s t u w hands later ended own place write told takes held gives =
    let shape = shape_in store in
    let made = held.change.made in
    let events = thaws shape place.table place.key made ++ write ∷ [] in
    record {
      stands = gives.stands;
      change = record {
        made = made;
        has_made = held.change.has_made;
        replies = held.change.replies;
        goes_on = subst (λ (l : List (Entry CoreEvent)). GoesOn (log_of s.me.0.log) (log_of l)) (sym gives.log)
            (goes_far (log_of s.me.0.log) (log_of t.me.0.log) (log_of u.me.0.log) takes.sees.goes_on held.change.goes_on);
        own = ap (λ (l : List (Entry CoreEvent)). own_in shape session (log_of l)) gives.log
            ∙ held.change.own ∙ ap (λ (os : List Occurrence). os ++ made) takes.sees.same;
        count =
            let a = ap (λ (es : List (Entry CoreEvent)). length es) gives.mine in
            let b = held.change.count in
            let c = ap (λ (es : List (Entry CoreEvent)). length es) takes.mine in
            omega (arith, a, b, c);
        ends = subst (λ (l : List (Entry CoreEvent)). EndsWithLast made (log_of l)) (sym gives.log) held.change.ends;
        reads = same_on takes.sees.reads (same_on held.change.reads gives.reads);
        events = held.change.events;
        writes = λ change' is commits wrote has.
            subst (λ (l : List (Entry CoreEvent)). HasOpenIn session (machine_after shape (log_of l)) commits (cond (is_written told) (insert_entry place_cmp wrote place change') wrote)) (sym gives.log)
            (held.change.writes change' is commits wrote
            (open_on session (machine_after shape (log_of s.me.0.log)) (machine_after shape (log_of t.me.0.log)) commits wrote has
            (quiet_on shape session (log_of s.me.0.log) (log_of t.me.0.log) [] takes.sees.goes_on (takes.sees.same ∙ sym (append-nil (own_in shape session (log_of s.me.0.log)))) tt takes.within.knows.under)));
      };
      took = subst (λ (later : List ℕ). TookPartsOf shape events (log_of s.me.0.log) (log_of w.me.0.log) s.me.0.taken later) (sym (gives.taken ∙ held.taken))
          (subst (λ (l : List (Entry CoreEvent)). TookPartsOf shape events (log_of s.me.0.log) (log_of l) s.me.0.taken t.me.0.taken) (sym gives.log)
          (took_wider shape (thaws shape place.table place.key made) (write ∷ []) (log_of s.me.0.log) (log_of u.me.0.log) s.me.0.taken t.me.0.taken
          (took_further shape (write ∷ []) (log_of s.me.0.log) (log_of t.me.0.log) (log_of u.me.0.log) s.me.0.taken t.me.0.taken takes.took held.change.goes_on)));
    }

-- a change is made by two events at most
pub change_few : (sh : Shape) (place : Place) (write : CoreEvent) (made : List Occurrence) (told : CoreReply) → HasMade sh place write made told → length made ≤ 2
change_few sh place write made told has = go (option_and_then (imaged_block sh place.table place.key) (parts_before made)) has.events
  where
    go : (block : Option ℕ) → map (event.Thaw place.table) (option_to_list block) ++ write ∷ [] ≡ events_in made ++ has.missed → length made ≤ 2
    go None e =
        let same = ap (λ (es : List CoreEvent). length es) e in
        let both = length-append (events_in made) has.missed in
        let many : length (events_in made) ≡ length made = length-map made (λ (o : Occurrence). o.event) in
        omega (arith, same, both, many)
    go (Some b) e =
        let same = ap (λ (es : List CoreEvent). length es) e in
        let both = length-append (events_in made) has.missed in
        let many : length (events_in made) ≡ length made = length-map made (λ (o : Occurrence). o.event) in
        omega (arith, same, both, many)

-- ---- the call

-- the session behind a change
pub changed_session : (store : StoreView) (old new : Session) (place : Place) (write : CoreEvent) (told : CoreReply)
    → Changes store old.session old.pass.seat new.pass.seat new.pass.hands (own_of old) place write told
    → new.session ≡ old.session → own_of new ≡ own_behind (own_of old) write told → ReadsFit (shape_in store) (reads_of new) → IsSession store new
changed_session store old new place write told m same own_now fits =
    session_is store new (subst (λ q. IsAt store q new.pass.seat new.pass.hands (own_of new)) (sym same)
    (subst (IsAt store old.session new.pass.seat new.pass.hands) (sym own_now) m.stands)) fits

-- and what it answers
pub changed_call : (store : StoreView) (old new : Session) (place : Place) (write : CoreEvent) (told : CoreReply) (asked : Command) (line : Said)
    → IsSession store old
    → (m : Changes store old.session old.pass.seat new.pass.seat new.pass.hands (own_of old) place write told)
    → IsChangeBy (shape_in store) old.session (own_of old) place write asked
    → told_by place.table 0 told ≡ Some line
    → reads_of new ≡ reads_behind (reads_of old) asked line
    → wrote_of new ≡ written_behind m.change.made (wrote_of old)
    → Answers store old new asked line
changed_call store old new place write told asked line is m by tells keeps wrote = record {
  made = made;
  keeps = keeps;
  wrote = wrote;
  called = record {
    stretch = events_are_a_stretch shape old.session (seen old) (seen new) made m.change.goes_on m.change.own m.change.events;
    is_call = subst (λ (o : Option OwnTransaction). IsCallBy shape false old.session o (refusal_of asked o) call) is.own
        (subst (λ (r : Option Said). IsCallBy shape false old.session (own_of old) r call) (sym by.granted) (go (is_memory told) refl));
  };
  count = let all = all_events made m.change.events in let n = m.change.count in omega (arith, all, n);
  ends = ends_call line made (seen new) m.change.ends;
  reads = keeps_same m.change.reads;
  took = subst (λ (es : List CoreEvent). TookPartsOf shape es (seen old) (seen new) (taken_by old) (taken_by new)) (sym (by.events (reads_of old) made)) m.took;
}
  where
    shape : Shape
    shape = shape_in store

    made : List Occurrence
    made = m.change.made

    call : Call
    call = record { command = asked; made = made; told = Some line; reads = reads_of old }

    some_is : (a b : Said) → Some a ≡ Some b → a ≡ b
    some_is a b e = cc

    go : (r : Bool) → is_memory told ≡ r → IsWhole shape false old.session (own_of old) call ⊎ IsPart shape old.session (own_of old) call
    go true memory = inr (record {
      may = by.may;
      missed = m.change.has_made.missed;
      events = by.events (reads_of old) made ∙ m.change.has_made.events;
      cut = m.change.has_made.refused memory;
      line = ap (λ (x : Said). Some x) (some_is line said.Memory (sym tells ∙ ap (told_by place.table 0) (memory_is told memory)));
    })
    go false granted =
        let whole = m.change.has_made.granted granted in
        inl (record {
          events = sym (by.events (reads_of old) made ∙ m.change.has_made.events ∙ ap (λ (es : List CoreEvent). events_in made ++ es) whole.0 ∙ append-nil (events_in made));
          granted = whole.1;
          line = sym (by.line (replies_in made) ∙ ap (option_and_then (told_by place.table 0)) m.change.has_made.last ∙ tells);
        })

-- ---- an update and a delete

module _ (store : StoreView) (s : Session) (own : OwnTransaction) (is : IsSession store s) (some' : own_of s ≡ Some own) where
  -- The shape of the store's core.
  abbrev st : Shape
  st = shape_in store

  -- an update is a change of its row
  pub update_changes : (table : ℕ) (row : Row) → HasTable st table → FitsTable st table row
      → IsChangeOf st s.session (own_of s) (place_of table row) (event.Update (own_key table (key_of row) own) table row)
  update_changes table row has fits = record {
    handed = own_key table (key_of row) own;
    mine = inl (ap Some (own_stands store s own is some').0);
    thawless = refl;
    table = has;
    touches = λ held name. refl;
    stands = λ parts opened. keys st parts own table (key_of row) (subst (HasOpened st parts s.session) some' opened).1;
    fits = λ parts thawed. (has, fits, thawed);
    replies = λ parts.
        let judged = change_judged st parts (own_key table (key_of row) own) table (key_of row) in
        writes_reply (reply_to_write judged) judged (inr refl);
    takes = refl;
    behind = λ told. refl;
  }

  -- a delete is a change of its key's row
  pub delete_changes : (table : ℕ) (key : ℤ) → HasTable st table
      → IsChangeOf st s.session (own_of s) (place_at table key) (event.Delete (own_key table key own) table key)
  delete_changes table key has = record {
    handed = own_key table key own;
    mine = inl (ap Some (own_stands store s own is some').0);
    thawless = refl;
    table = has;
    touches = λ held name. refl;
    stands = λ parts opened. keys st parts own table key (subst (HasOpened st parts s.session) some' opened).1;
    fits = λ parts thawed. (has, thawed);
    replies = λ parts.
        let judged = change_judged st parts (own_key table key own) table key in
        writes_reply (reply_to_write judged) judged (inr refl);
    takes = refl;
    behind = λ told. refl;
  }

  -- to the machine an update is a change to its row, and a delete to none
  pub update_to : (table : ℕ) (row : Row) → IsChangeTo s.session (place_of table row) (Some row) (event.Update (own_key table (key_of row) own) table row)
  update_to table row = record { asks = ap (λ q. Some (command_of q (act.Update table row))) (own_stands store s own is some').0; there = refl; unread = refl }

  pub delete_to : (table : ℕ) (key : ℤ) → IsChangeTo s.session (place_at table key) None (event.Delete (own_key table key own) table key)
  delete_to table key = record { asks = ap (λ q. Some (command_of q (act.Delete table key))) (own_stands store s own is some').0; there = tt; unread = refl }

  -- the command to update is this change, with its events and its line
  pub update_by : (table : ℕ) (row : Row)
      → IsChangeBy st s.session (own_of s) (place_of table row) (event.Update (own_key table (key_of row) own) table row) (command.Update table row)
  update_by table row = record {
    granted = ap (refusal_of (command.Update table row)) some';
    may = refl;
    events = λ reads made. ap (λ (o : Option OwnTransaction). events_of st o reads s.session (command.Update table row) made) some';
    line = λ replies. refl;
  }

  -- the command to delete is this change, with its events and its line
  pub delete_by : (table : ℕ) (key : ℤ)
      → IsChangeBy st s.session (own_of s) (place_at table key) (event.Delete (own_key table key own) table key) (command.Delete table key)
  delete_by table key = record {
    granted = ap (refusal_of (command.Delete table key)) some';
    may = refl;
    events = λ reads made. ap (λ (o : Option OwnTransaction). events_of st o reads s.session (command.Delete table key) made) some';
    line = λ replies. refl;
  }
