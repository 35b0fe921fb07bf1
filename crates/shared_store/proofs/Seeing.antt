-- A block that was seen: lent, read by an event, or neither for want of memory.
use Rattle.std.proofs.Common.{◌≡◌, ◌⊎◌, ℕ, ◌+◌, ◌*◌, ◌^◌, ◌<◌, ◌≤◌, Bool, true, false, cond, not, List, [], ◌∷◌, ◌++◌, Option, Some, length, refl, sym, ap, subst, ◌∙◌, true≢false, arith}
use mathlib.Core.Logic.{inl, inr}
use Rattle.std.specs.Prelude.{All, IsErr, Result, Ok, Err, count_by, slice_get}
use Rattle.block_spec.specs.Bodies.{Body, is_imaged, rows_of}
use Rattle.block_spec.specs.Slots.{Row}
use Rattle.cell_model.specs.Rows.{Fits}
use Rattle.core_laws.specs.Frames.Shards.{CoreHolds}
use Rattle.event_spec.specs.declared.event.Event.TheVariants as event
use Rattle.event_spec.specs.declared.own.OwnTransaction.{OwnTransaction}
use Rattle.event_spec.specs.declared.reply.Reply.TheVariants as reply
use Rattle.event_spec.specs.Effects.{CoreEvent}
use Rattle.event_spec.specs.Lawful.{HasBlock, OwnsAll}
use Rattle.event_spec.specs.Parts.{BodyOf, CorePart, Parts, Shape, body_at, body_from, names, slots_of}
use Rattle.event_spec.specs.Replay.{columns_in, reply_after}
use Rattle.event_spec.specs.Touched.{touching}
use Rattle.core_laws.proofs.Frames.Looks.{look, name_self}
use Rattle.hall_rule.specs.Hands.{Agrees, Covers}
use Rattle.shared_store.specs.Alone.{IsOnBody}
use Rattle.event_spec.specs.Replies.{CoreReply, reply_to_read, rows_read}
use Rattle.hall_rule.specs.declared.view.Entry.{Entry}
use Rattle.run_spec.specs.Handed.{GoesOn, Stretch, own_in}
use Rattle.run_spec.specs.Occurrences.{Occurrence}
use Rattle.run_spec.specs.Told.{is_shared, rows_told}
use Rattle.store_laws.proofs.Calling.{event_stretch}
use Rattle.store_laws.proofs.Lent.{lent_stretch}
use Rattle.store_laws.proofs.Stretches.{nothing_is_a_stretch, stretches_join}
use Rattle.store_laws.specs.Logs.{log_of}
use Rattle.store_laws.specs.Own.{entry_of, occurrence_at, parts_after}
use Rattle.store_laws.specs.Stretches.{is_event}
use Rattle.shared_store.specs.Lending.{HasLent, ImagedIs, LendAnswers, LendView, Lends, LendsHeld}
use Rattle.shared_store.specs.Making.{Gives, Makes, MakesHeld, Takes}
use Rattle.shared_store.specs.Reading.{MayReadHeld, ReadsBlock, SeesBlock}
use Rattle.shared_store.specs.declared.reading.SeenBlock.{SeenBlock}
use Rattle.shared_store.specs.declared.reading.SeenBlock.TheVariants as block
use Rattle.shared_store.specs.declared.lending.LendFault.TheVariants as fault
use Rattle.shared_store.specs.Store.{HandsView, IsAt, IsSession, IsWithin, SeatView, StoreView, TookPartsOf, events_made, own_of, seen, shape_in, taken_by, view_of, KeepsNotes}
use Rattle.shared_store.specs.declared.lending.LendFault.{LendFault}
use Rattle.shared_store.specs.declared.session.Session.{Session}
use Rattle.shared_store.proofs.BlockReads.{block_few, block_fits, holds_before, told_fits}
use Rattle.shared_store.proofs.Calls.{told_or_memory}
use Rattle.shared_store.proofs.Claims.{same_on}
use Rattle.shared_store.proofs.Hands.{agrees_with}
use Rattle.shared_store.proofs.Lent.{answers_on, left_holds, left_owns, left_parts, same_parts}
use Rattle.shared_store.proofs.Made.{made_whole, one_hand}
use Rattle.hall_steps.specs.Hall.{SameClaim, first_of}
use Rattle.run_spec.specs.Calls.{is_memory}
use Rattle.shared_store.proofs.Open.{sees_on}
use Rattle.shared_store.proofs.Sessions.{session_is}

-- ---- a pass that took the body, and entered its word

-- What was taken, where the word was entered since, by which nothing of the view changed but the
-- claim, and that neither.
pub took_entered : (store : StoreView) (session : ℕ) (s t u : SeatView) (hands later : HandsView) (own : Option OwnTransaction) (e : CoreEvent)
    → Takes store session s t hands own e → IsWithin store session u later own → u.me.0.log ≡ t.me.0.log → u.me.0.mine ≡ t.me.0.mine → u.me.0.taken ≡ t.me.0.taken
    → Rattle.hall_steps.specs.Hall.SameClaim t.me.0 u.me.0 → Rattle.hall_steps.specs.Hall.first_of later ≡ Rattle.hall_steps.specs.Hall.first_of hands
    → Takes store session s u later own e
took_entered store session s t u hands later own e takes within log mine taken same hand = record {
  within = within;
  sees = record {
    goes_on = subst (λ (l : List (Entry CoreEvent)). GoesOn (log_of s.me.0.log) (log_of l)) (sym log) takes.sees.goes_on;
    same = subst (λ (l : List (Entry CoreEvent)). own_in (shape_in store) session (log_of l) ≡ own_in (shape_in store) session (log_of s.me.0.log)) (sym log) takes.sees.same;
    knows = within.knows;
    reads = same_on takes.sees.reads same;
  };
  mine = mine ∙ takes.mine;
  covers = subst (Covers (touching (shape_in store) e)) (sym hand) takes.covers;
  took = subst (λ (ts : List ℕ). TookPartsOf (shape_in store) (e ∷ []) (log_of s.me.0.log) (log_of u.me.0.log) s.me.0.taken ts) (sym taken)
      (subst (λ (l : List (Entry CoreEvent)). TookPartsOf (shape_in store) (e ∷ []) (log_of s.me.0.log) (log_of l) s.me.0.taken t.me.0.taken) (sym log) takes.took);
  stands = λ other mine stands.
      subst (λ (l : List (Entry CoreEvent)). Rattle.event_spec.specs.Lawful.Stands (shape_in store) other (Rattle.hall_rule.specs.EventLog.replay (Rattle.store_laws.specs.Logs.store_meaning (shape_in store)) l)) (sym log)
      (takes.stands other mine stands);
  lasting = λ stamp known.
      subst (λ (l : List (Entry CoreEvent)). Rattle.event_spec.specs.Lawful.IsOldest (shape_in store) stamp (Rattle.hall_rule.specs.EventLog.replay (Rattle.store_laws.specs.Logs.store_meaning (shape_in store)) l)) (sym log)
      (takes.lasting stamp known);
}

-- ---- a block that was lent

module _ (store : StoreView) (old new : Session) (table at : ℕ) (e : CoreEvent) (t u : SeatView) (hands later : HandsView) (result : Result LendView LendFault)
    (takes : Takes store old.session old.pass.seat t hands (own_of old) e)
    (lends : LendsHeld store old.session t u hands later (own_of old) table at result)
    (gives : Gives store old.session u new.pass.seat new.pass.hands (own_of old))
    (same : new.session ≡ old.session) (opened : own_of new ≡ own_of old) (kept : KeepsNotes store old new)
  where
    log : new.pass.seat.me.0.log ≡ t.me.0.log
    log = gives.log ∙ lends.log

    -- it is its session's as before
    pub seen_session : IsSession store new
    seen_session = session_is store new (subst (λ q. IsAt store q new.pass.seat new.pass.hands (own_of new)) (sym same)
        (subst (IsAt store old.session new.pass.seat new.pass.hands) (sym opened) gives.stands)) kept.1

    pub seen_goes : GoesOn (seen old) (seen new)
    seen_goes = subst (λ (l : List (Entry CoreEvent)). GoesOn (seen old) (log_of l)) (sym log) takes.sees.goes_on

    pub seen_own : own_in (shape_in store) old.session (seen new) ≡ own_in (shape_in store) old.session (seen old)
    seen_own = ap (λ (l : List (Entry CoreEvent)). own_in (shape_in store) old.session (log_of l)) log ∙ takes.sees.same

    pub seen_mine : events_made new ≡ events_made old
    seen_mine = ap (λ (es : List (Entry CoreEvent)). length es) (gives.mine ∙ lends.mine ∙ takes.mine)

    pub seen_took : TookPartsOf (shape_in store) (e ∷ []) (seen old) (seen new) (taken_by old) (taken_by new)
    seen_took = subst (λ (ts : List ℕ). TookPartsOf (shape_in store) (e ∷ []) (seen old) (seen new) (taken_by old) ts) (sym (gives.taken ∙ lends.taken))
        (subst (λ (l : List (Entry CoreEvent)). TookPartsOf (shape_in store) (e ∷ []) (seen old) (log_of l) (taken_by old) t.me.0.taken) (sym log) takes.took)

    -- what the lend answered
    pub seen_answers : LendAnswers (shape_in store) new.pass.seat.me.0 (own_of old) table at result
    seen_answers = answers_on (shape_in store) u.me.0 new.pass.seat.me.0 (own_of old) table at result gives.log gives.reads lends.answers

    -- the lend as a whole
    pub lent_whole : (body : ℕ) → slice_get (names (shape_in store)) body ≡ Some (BodyOf table at) → t.me.0.taken ≡ taken_by old ++ body ∷ [] → Lends store old new table at result
    lent_whole body number took = record {
      looks = record {
        session = seen_session;
        same = same;
        opened = opened;
        kept = kept.0;
        sees = seen_goes;
        own = seen_own;
        made = seen_mine;
        body = body;
        is_body = number;
        took = gives.taken ∙ lends.taken ∙ took;
        is_open = sees_on store old new seen_session same opened seen_goes seen_own;
      };
      answers = subst (λ (o : Option OwnTransaction). LendAnswers (shape_in store) new.pass.seat.me.0 o table at result) (sym opened) seen_answers;
    }

    nothing : Stretch (shape_in store) old.session (seen old) (seen new) []
    nothing = nothing_is_a_stretch (shape_in store) old.session (seen old) (seen new) seen_goes seen_own

    module _ (own : OwnTransaction) (open' : own_of old ≡ Some own) (has : HasBlock (shape_in store) table at) (is : e ≡ event.Read own table at) where
      took_read : TookPartsOf (shape_in store) (event.Read own table at ∷ []) (seen old) (seen new) (taken_by old) (taken_by new)
      took_read = subst (λ (e : CoreEvent). TookPartsOf (shape_in store) (e ∷ []) (seen old) (seen new) (taken_by old) (taken_by new)) is seen_took

      -- there was no memory to lend it
      pub reads_none : ReadsBlock store old new own table at reply.Memory
      reads_none = record {
        session = seen_session;
        same = same;
        opened = opened;
        kept = kept.0;
        made = [];
        is_read = inr (refl, refl);
        stretch = nothing;
        count = let m = seen_mine in omega (arith, m);
        ends = tt;
        took = took_read;
        fits = Rattle.std.proofs.lemmas.List.Elements.All-nil (Fits (columns_in (shape_in store) table));
        few = omega arith;
      }

      -- The parts that it saw.
      abbrev pub parts : Parts
      parts = parts_after (shape_in store) (seen new)

      holds : CoreHolds (shape_in store) parts
      holds = left_holds store old.session new.pass.seat new.pass.hands (own_of old) gives.stands.within

      owns : OwnsAll (shape_in store) own parts
      owns = left_owns store old.session new.pass.seat new.pass.hands (own_of old) gives.stands.within own open'

      module _ (lend : LendView) (imaged : is_imaged (body_at (shape_in store) parts table at).phase ≡ true) (rows : rows_of (body_at (shape_in store) parts table at) ≡ lend.rows) where
        -- The read that the lend stands for.
        abbrev last : Occurrence
        last = occurrence_at old.session parts (event.Read own table at) (reply.Shared lend.rows)

        told : reply_to_read (shape_in store) parts own table at ≡ reply.Shared lend.rows
        told =
            ap (λ b. cond {A = CoreReply} b (reply.Shared (rows_of (body_at (shape_in store) parts table at))) (reply.Rows (rows_read (shape_in store) parts own table at))) imaged
            ∙ ap (λ (rows : List Row). reply.Shared rows) rows

        lent : Stretch (shape_in store) old.session (seen new) (seen new) (last ∷ [])
        lent = subst (λ (rows : List Row). Stretch (shape_in store) old.session (seen new) (seen new) (occurrence_at old.session parts (event.Read own table at) (reply.Shared rows) ∷ [])) rows
            (lent_stretch (shape_in store) old.session own table at (seen new) owns has imaged)

        -- it was lent
        pub reads_lent : ReadsBlock store old new own table at (reply.Shared lend.rows)
        reads_lent = record {
          session = seen_session;
          same = same;
          opened = opened;
          kept = kept.0;
          made = last ∷ [];
          is_read = inl (parts, refl);
          stretch = stretches_join (shape_in store) old.session (seen old) (seen new) (seen new) [] (last ∷ []) nothing lent;
          count = let m = seen_mine in let none' : count_by is_event (last ∷ []) ≡ 0 = refl in omega (arith, m, none');
          ends = λ event'. absurd (true≢false (sym event'));
          took = took_read;
          fits = subst (λ (r : CoreReply). All (Fits (columns_in (shape_in store) table)) (rows_told r)) told (block_fits (shape_in store) parts holds.sound own table at has);
          few = subst (λ (r : CoreReply). length (rows_told r) ≤ slots_of (shape_in store) table) told (block_few (shape_in store) parts holds.sound own table at has);
        }

-- ---- a block that was read by an event

-- a read that was made alone has read its block, and the session has open what it had
pub reads_made : (store : StoreView) (s new : Session) (own : OwnTransaction) (t b : ℕ) (told : CoreReply)
    → HasBlock (shape_in store) t b
    → Makes store s.session s.pass.seat new.pass.seat new.pass.hands (own_of s) (event.Read own t b) told → is_shared told ≡ false
    → new.session ≡ s.session → own_of new ≡ own_of s → KeepsNotes store s new → ReadsBlock store s new own t b told
reads_made store s new own t b told has m unshared same opened kept = record {
  session = session;
  same = same;
  opened = opened;
  kept = kept.0;
  made = occurrence_at s.session (parts_after (shape_in store) m.makes.before) (event.Read own t b) told ∷ [];
  is_read = inl (parts_after (shape_in store) m.makes.before, refl);
  stretch = event_stretch (shape_in store) s.session (seen s) (seen new) (event.Read own t b) told m.makes unshared;
  count = m.count ∙ ap (λ b. events_made s + (0 + cond {A = ℕ} (not b) 1 0)) (sym unshared);
  ends = λ event'. (m.makes.before, m.makes.log);
  took = m.took;
  fits = both.0;
  few = both.1;
}
  where
    session : IsSession store new
    session = session_is store new (subst (λ q. IsAt store q new.pass.seat new.pass.hands (own_of new)) (sym same)
        (subst (IsAt store s.session new.pass.seat new.pass.hands) (sym opened) m.stands)) kept.1

    holds : CoreHolds (shape_in store) (parts_after (shape_in store) m.makes.before)
    holds = holds_before (shape_in store) m.makes.before (entry_of s.session (event.Read own t b) told) (seen new) m.stands.within.pass.of.1.begins m.makes.log session.lawful

    both : All (Fits (columns_in (shape_in store) t)) (rows_told told) × (length (rows_told told) ≤ slots_of (shape_in store) t)
    both = told_fits (shape_in store) (parts_after (shape_in store) m.makes.before) holds.sound own t b told has
        (told_or_memory store s.session s.pass.seat new.pass.seat new.pass.hands (own_of s) (event.Read own t b) told m)

-- ---- a body in the hand

-- a read of a block touches its body alone
pub read_on_body : (sh : Shape) (own : OwnTransaction) (t b : ℕ) → IsOnBody sh t b (event.Read own t b)
read_on_body sh own t b = record { touches = λ held name. refl; low = λ name is. absurd (true≢false (sym is)) }

-- the body that is in a hand is the same of all parts that agree with the hand
pub same_body : (sh : Shape) (hand : List (Option CorePart)) (s s' : Parts) (own : OwnTransaction) (t b : ℕ) → Covers (touching sh (event.Read own t b)) hand → Agrees hand s → Agrees hand s'
    → body_at sh s t b ≡ body_at sh s' t b
same_body sh hand s s' own t b covers a a' = ap body_from
    (sym (look sh (event.Read own t b) hand s (BodyOf t b) covers a (name_self (BodyOf t b))) ∙ look sh (event.Read own t b) hand s' (BodyOf t b) covers a' (name_self (BodyOf t b)))

-- a read of a block that is not imaged tells rows, or that there is no memory
pub loose_told : (sh : Shape) (s : Parts) (own : OwnTransaction) (t b : ℕ) (told : CoreReply) (refused : Bool) → is_imaged (body_at sh s t b).phase ≡ false
    → told ≡ reply_after sh s (record { event = event.Read own t b; refused = refused }) → (told ≡ reply.Memory) ⊎ (told ≡ reply.Rows (rows_read sh s own t b))
loose_told sh s own t b answer true loose is = inl is
loose_told sh s own t b answer false loose is = inr (is
    ∙ ap (λ x. cond {A = CoreReply} x (reply.Shared (rows_of (body_at sh s t b))) (reply.Rows (rows_read sh s own t b))) loose)

-- so no image
pub loose_unshared : (sh : Shape) (s : Parts) (own : OwnTransaction) (t b : ℕ) (told : CoreReply) → (told ≡ reply.Memory) ⊎ (told ≡ reply.Rows (rows_read sh s own t b)) → is_shared told ≡ false
loose_unshared sh s own t b answer (inl is) = ap is_shared is
loose_unshared sh s own t b answer (inr is) = ap is_shared is

-- what a pass that holds the body of such a block is told
pub held_told : (store : StoreView) (session : ℕ) (t u : SeatView) (hands later : HandsView) (own : OwnTransaction) (table at : ℕ) (told : CoreReply)
    → IsWithin store session t hands (Some own) → Covers (touching (shape_in store) (event.Read own table at)) (first_of hands)
    → ImagedIs (shape_in store) t.me.0 (Some own) table at false
    → (m : MakesHeld store session t u hands later (Some own) (event.Read own table at) told)
    → (told ≡ reply.Memory) ⊎ (told ≡ reply.Rows (rows_read (shape_in store) (parts_after (shape_in store) m.makes.before) own table at))
held_told store session t u hands later own table at told within covers loose m =
    let sh = shape_in store in
    let before = parts_after sh m.makes.before in
    let agrees = subst (Agrees (first_of hands)) (same_parts store session t hands (Some own) within) (agrees_with store t hands within.pass (one_hand store session t hands (Some own) within)) in
    let body = same_body sh (first_of hands) before (left_parts store session t hands (Some own) within) own table at covers m.agrees agrees in
    loose_told sh before own table at told (is_memory told) (ap (λ (x : Body). is_imaged x.phase) body ∙ loose) m.makes.reply

-- ---- what is answered

module _ (E : Type 0) (store : StoreView) (old new : Session) (table at : ℕ) (own : OwnTransaction) (t u : SeatView) (hands later : HandsView)
    (open' : own_of old ≡ Some own) (has : HasBlock (shape_in store) table at)
    (takes : Takes store old.session old.pass.seat t hands (own_of old) (event.Read own table at))
    (same : new.session ≡ old.session) (opened : own_of new ≡ own_of old) (kept : KeepsNotes store old new)
  where
    -- a block that was lent
    pub sees_lent : (lend : LendView) (spent : ℕ) → LendsHeld store old.session t u hands later (own_of old) table at (Ok lend) → Gives store old.session u new.pass.seat new.pass.hands (own_of old)
        → SeesBlock {E = E} store old new own table at spent spent (Ok (block.Lent lend))
    sees_lent lend spent lends gives =
        let lent = seen_answers store old new table at (event.Read own table at) t u hands later (Ok lend) takes lends gives same opened kept in
        let reads = reads_lent store old new table at (event.Read own table at) t u hands later (Ok lend) takes lends gives same opened kept own open' has refl lend (ap is_imaged lent.1.image.imaged) lent.1.image.rows in
        record {
          reads = reads;
          holds = record {
            table = table;
            block = at;
            stamp = lent.0;
            lent = subst (λ (o : Option OwnTransaction). HasLent (shape_in store) (view_of new) o lend table at lent.0) (sym opened) lent.1;
          };
          looked = omega arith;
        }

    -- one for which there was no memory
    pub sees_none : (memory : E) (spent : ℕ) → LendsHeld store old.session t u hands later (own_of old) table at (Err fault.Memory) → Gives store old.session u new.pass.seat new.pass.hands (own_of old)
        → SeesBlock {E = E} store old new own table at spent spent (Err memory)
    sees_none memory spent lends gives =
        let free = seen_answers store old new table at (event.Read own table at) t u hands later (Err fault.Memory) takes lends gives same opened kept in
        record {
          reads = reads_none store old new table at (event.Read own table at) t u hands later (Err fault.Memory) takes lends gives same opened kept own open' has refl;
          holds = free.0;
          looked = omega arith;
        }

    module _ (word : ℕ) (lends : LendsHeld store old.session t u hands later (own_of old) table at (Err (fault.NotLent word)))
        (v : SeatView) (last : HandsView) (spent steps : ℕ) (few : steps ≤ spent + slots_of (shape_in store) table)
      where
        -- What was made for it is whole.
        read_whole : (told : CoreReply) → MakesHeld store old.session u v later last (own_of old) (event.Read own table at) told → Gives store old.session v new.pass.seat new.pass.hands (own_of old)
            → Makes store old.session old.pass.seat new.pass.seat new.pass.hands (own_of old) (event.Read own table at) told
        read_whole told made gives = made_whole store old.session old.pass.seat u v new.pass.seat later last new.pass.hands (own_of old) (event.Read own table at) told
            (took_entered store old.session old.pass.seat t u hands later (own_of old) (event.Read own table at) takes lends.within lends.log lends.mine lends.taken (lends.unlent word refl) lends.hand) made gives

        free : (told : CoreReply) → MakesHeld store old.session u v later last (own_of old) (event.Read own table at) told → Gives store old.session v new.pass.seat new.pass.hands (own_of old) → (view_of new).claim ≡ 0
        free answer made gives = gives.reads.0 ∙ made.reads.0 ∙ lends.answers.0

        looked : (told : CoreReply) (r : ReadsBlock store old new own table at told) → events_made new ≡ events_made old + 1 → steps ≤ spent + slots_of (shape_in store) table * count_by is_event r.made
        looked told r one =
            let count = r.count in
            let once : count_by is_event r.made ≡ 1 = omega (arith, count, one) in
            subst (λ n. steps ≤ spent + slots_of (shape_in store) table * n) (sym once) (omega (arith, few))

        -- one that was read by an event
        pub sees_rows : (rows : List Row) → MakesHeld store old.session u v later last (own_of old) (event.Read own table at) (reply.Rows rows) → Gives store old.session v new.pass.seat new.pass.hands (own_of old)
            → SeesBlock {E = E} store old new own table at spent steps (Ok (block.Rows rows))
        sees_rows rows made gives =
            let m = read_whole (reply.Rows rows) made gives in
            let r = reads_made store old new own table at (reply.Rows rows) has m refl same opened kept in
            record { reads = r; holds = free (reply.Rows rows) made gives; looked = looked (reply.Rows rows) r m.count }

        -- one whose event was refused memory
        pub sees_refused : (memory : E) → MakesHeld store old.session u v later last (own_of old) (event.Read own table at) reply.Memory → Gives store old.session v new.pass.seat new.pass.hands (own_of old)
            → SeesBlock {E = E} store old new own table at spent steps (Err memory)
        sees_refused memory made gives =
            let m = read_whole reply.Memory made gives in
            let r = reads_made store old new own table at reply.Memory has m refl same opened kept in
            record { reads = r; holds = free reply.Memory made gives; looked = looked reply.Memory r m.count }

-- what is answered in any case of want of memory is so for one
pub sees_err : (E : Type 0) (P : Result SeenBlock E → Type 0) (r : Result SeenBlock E) → IsErr r → ((memory : E) → P (Err memory)) → P r
sees_err E P (Ok seen) is each = absurd (true≢false (sym is))
sees_err E P (Err memory) is each = each memory

-- a pass that did not lend a block may read it
pub may_read : (store : StoreView) (session : ℕ) (t u : SeatView) (hands later : HandsView) (own : OwnTransaction) (table at : ℕ) (s : SeatView)
    → IsWithin store session u later (Some own) → HasBlock (shape_in store) table at → Covers (touching (shape_in store) (event.Read own table at)) (first_of hands) → first_of later ≡ first_of hands
    → is_imaged (body_at (shape_in store) (parts_after (shape_in store) (log_of u.me.0.log)) table at).phase ≡ false → t.me.0.mine ≡ s.me.0.mine → u.me.0.mine ≡ t.me.0.mine
    → length s.me.0.mine + 1 < 2 ^ 56 → MayReadHeld store u later own table at
may_read store session t u hands later own table at s within has covers hand loose first then few = record {
  session = session;
  within = within;
  has = has;
  covers = subst (Covers (touching (shape_in store) (event.Read own table at))) (sym hand) covers;
  loose = loose;
  few = let m = ap (λ (es : List (Entry CoreEvent)). length es) (then ∙ first) in omega (arith, m, few);
}
