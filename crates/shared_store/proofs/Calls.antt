-- Calls of a session: refused without an event, without memory for one, or of one event.
use Rattle.std.proofs.Common.{◌≡◌, ◌⊎◌, ℕ, Bool, true, false, cond, not, ◌+◌, List, [], ◌∷◌, ◌++◌, Option, None, Some, length, option_map, is_some, refl, sym, ap, subst, ◌∙◌, append-nil, true≢false, ℤ, arith}
use mathlib.Core.Logic.{inl, inr}
use Rattle.core_laws.specs.Words.Words.{thawed_part}
use Rattle.event_spec.specs.declared.own.OwnTransaction.{OwnTransaction}
use Rattle.event_spec.specs.declared.reply.Reply.TheVariants as reply
use Rattle.event_spec.specs.Effects.{CoreEvent}
use Rattle.event_spec.specs.Parts.{Parts, Shape}
use Rattle.event_spec.specs.Replies.{CoreReply}
use Rattle.run_spec.specs.Asked.{events_of}
use Rattle.run_spec.specs.Calls.{IsCallBy, is_memory, may_lack_memory, reads_behind}
use Rattle.run_spec.specs.Handed.{Called, own_in}
use Rattle.run_spec.specs.Occurrences.{Logged, Occurrence}
use Rattle.run_spec.specs.Opened.{own_after}
use Rattle.run_spec.specs.Told.{is_shared, refusal_of}
use Rattle.store_laws.proofs.Lends.{no_image_told}
use Rattle.store_laws.proofs.Stretches.{nothing_is_a_stretch}
use Rattle.store_laws.specs.Stretches.{is_event, reads_block}
use Rattle.std.specs.Prelude.{count_by}
use Rattle.std.specs.List.{list_all}
use Rattle.std.proofs.lemmas.Bool.{and_parts}
use Rattle.std.proofs.lemmas.List.Sums.{sum_by-append}
use Rattle.shared_store.specs.Writing.{IsWriteReply}
use Rattle.shared_store.proofs.Claims.{keeps_same, keeps_stays}
use Rattle.workload_spec.specs.declared.command.Command.{Command}
use Rattle.workload_spec.specs.declared.command.Command.TheVariants.{Begin}
use Rattle.workload_spec.specs.declared.reply.Said.{Said}
use Rattle.workload_spec.specs.declared.reply.Said.TheVariants as said
use Rattle.event_spec.specs.Lawful.{OwnsAll, OwnsKey, Stands, takes_memory}
use Rattle.event_spec.specs.Replay.{reply_after}
use Rattle.event_spec.specs.Replies.{reply_to}
use Rattle.event_spec.specs.declared.own.OwnKey.{OwnKey}
use Rattle.hall_rule.specs.EventLog.{has}
use Rattle.txn_desk.specs.declared.Snapshot.{Snapshot}
use Rattle.store_laws.proofs.Going.{keys}
use Rattle.store_laws.specs.OwnLaws.{HasOpened}
use Rattle.run_spec.specs.Opened.{own_behind, own_key}
use Rattle.shared_store.specs.Making.{FitsEach, Makes, MayMake, parts_seen}
use Rattle.shared_store.specs.Store.{Answers, EndsCall, EndsWithLast, HandsView, HasRoomFor, IsAt, IsSession, SeatView, StoreView, TookPartsOf, events_made, opened_at, own_of, seen, shape_in, taken_by, reads_of, wrote_of}
use Rattle.isolation_spec.specs.Contents.{PlaceMap, at_place, place_at}
use Rattle.isolation_spec.specs.declared.place.Place.{Place}
use Rattle.shared_store.specs.declared.session.Session.{Session}
use Rattle.shared_store.proofs.Sessions.{session_is}
use Rattle.store_laws.specs.Laws.{IsOfSession, TellsLine}
use Rattle.std.specs.Prelude.{IfSome}
use Rattle.std.specs.List.{last_or}
use Rattle.run_spec.specs.Calls.{is_refused}
use Rattle.store_laws.specs.Own.{entry_of, occurrence_at, parts_after}
use Rattle.store_laws.proofs.Calling.{single_events_are_calls}
use Rattle.shared_store.specs.Commits.{written_behind}
use Rattle.shared_store.specs.Reads.{ReadsFit}
use Rattle.shared_store.proofs.Noted.{unwritten}
use Rattle.isolation_spec.specs.Reads.{ReadSet}

-- a call without an event, of one whose own stays
module _ (shape : Shape) (session : ℕ) (old : List Logged) (own : Option OwnTransaction) (own_is : own ≡ own_after (own_in shape session old)) where
  -- a command that is refused is a call without an event
  pub refused_call : (reads : Option ReadSet) (command : Command) (line : Said) → refusal_of command own ≡ Some line
      → Called shape false session old old (record { command = command; made = []; told = Some line; reads = reads })
  refused_call reads command line refused = record {
    stretch = nothing_is_a_stretch shape session old old ([], sym (append-nil old)) refl;
    is_call = subst (λ o. IsCallBy shape false session o (refusal_of command o) (record { command = command; made = []; told = Some line; reads = reads })) own_is
        (subst (λ r. IsCallBy shape false session own r (record { command = command; made = []; told = Some line; reads = reads })) (sym refused) (refl, refl));
  }

  -- a command that found no memory before its first event
  pub unmade_call : (reads : Option ReadSet) (command : Command) → refusal_of command own ≡ None → may_lack_memory command ≡ true
      → Called shape false session old old (record { command = command; made = []; told = Some said.Memory; reads = reads })
  unmade_call reads command granted may = record {
    stretch = nothing_is_a_stretch shape session old old ([], sym (append-nil old)) refl;
    is_call = subst (λ o. IsCallBy shape false session o (refusal_of command o) (record { command = command; made = []; told = Some said.Memory; reads = reads })) own_is
        (subst (λ r. IsCallBy shape false session own r (record { command = command; made = []; told = Some said.Memory; reads = reads })) (sym granted)
        (inr (record { may = may; missed = events_of shape own reads session command []; events = refl; cut = refl; line = refl })));
  }

-- no part was taken
pub took_none : (shape : Shape) (events : List CoreEvent) (log : List Logged) (taken : List ℕ) → TookPartsOf shape events log log taken taken
took_none shape events log taken = record { parts = []; took = sym (append-nil taken); touched = λ k is. absurd (true≢false (sym is)) }

-- A call of one event: the session behind it, and what it answers.
unfoldable pub one_event_at : (store : StoreView) (old new : Session) (command : Command) (e : CoreEvent) (told : CoreReply) (line : Said)
    → IsSession store old
    → reads_block e ≡ false
    → (m : Makes store old.session old.pass.seat new.pass.seat new.pass.hands (own_of old) e told)
    → new.session ≡ old.session
    → own_of new ≡ own_behind (own_of old) e told
    → reads_of new ≡ reads_behind (reads_of old) command line
    → wrote_of new ≡ written_behind (occurrence_at old.session (parts_after (shape_in store) m.makes.before) e told ∷ []) (wrote_of old)
    → ReadsFit (shape_in store) (reads_of new)
    → refusal_of command (own_of old) ≡ None
    → events_of (shape_in store) (own_of old) (reads_of old) old.session command (occurrence_at old.session (parts_after (shape_in store) m.makes.before) e told ∷ []) ≡ e ∷ []
    → TellsLine (own_of old) command told line
    → IsSession store new × Answers store old new command line
one_event_at store old new command e told line is other m same own_now keeps wrote fits granted events tells = (
  session_is store new (subst (λ q. IsAt store q new.pass.seat new.pass.hands (own_of new)) (sym same)
      (subst (IsAt store old.session new.pass.seat new.pass.hands) (sym own_now) m.stands)) fits,
  record {
    keeps = keeps;
    wrote = wrote;
    made = occurrence_at old.session (parts_after (shape_in store) m.makes.before) e told ∷ [];
    called = single_events_are_calls (shape_in store) old.session (seen old) (seen new) (own_of old) (reads_of old) command e told line is.own granted m.makes events tells unshared;
    count = m.count ∙ ap (λ b. events_made old + (0 + cond {A = ℕ} (not b) 1 0)) (sym unshared);
    ends = λ event' last. (m.makes.before, m.makes.log);
    reads = keeps_same m.reads;
    took = subst (λ es. TookPartsOf (shape_in store) es (seen old) (seen new) (taken_by old) (taken_by new)) (sym events) m.took;
  },
)
  where
    unshared : is_shared told ≡ false
    unshared = ap is_shared m.makes.reply ∙ no_image_told (shape_in store) (parts_after (shape_in store) m.makes.before) e (is_memory told) other

-- The same of a command whose events hang on nothing that was made.
unfoldable pub one_event : (store : StoreView) (old new : Session) (command : Command) (e : CoreEvent) (told : CoreReply) (line : Said)
    → IsSession store old
    → reads_block e ≡ false
    → Makes store old.session old.pass.seat new.pass.seat new.pass.hands (own_of old) e told
    → new.session ≡ old.session
    → own_of new ≡ own_behind (own_of old) e told
    → reads_of new ≡ reads_behind (reads_of old) command line
    → ((parts : Parts) → wrote_of new ≡ written_behind (occurrence_at old.session parts e told ∷ []) (wrote_of old))
    → ReadsFit (shape_in store) (reads_of new)
    → refusal_of command (own_of old) ≡ None
    → ((events : List Occurrence) → events_of (shape_in store) (own_of old) (reads_of old) old.session command events ≡ e ∷ [])
    → TellsLine (own_of old) command told line
    → IsSession store new × Answers store old new command line
one_event store old new command e told line is other m same own_now keeps wrote fits granted events tells =
    one_event_at store old new command e told line is other m same own_now keeps (wrote (parts_after (shape_in store) m.makes.before)) fits granted
    (events (occurrence_at old.session (parts_after (shape_in store) m.makes.before) e told ∷ [])) tells

-- A call without an event leaves the session as it was.
pub no_event : (store : StoreView) (s : Session) (command : Command) (line : Said) → IsSession store s → refusal_of command (own_of s) ≡ Some line
    → reads_of s ≡ reads_behind (reads_of s) command line → Answers store s s command line
no_event store s command line is refused keeps = record {
  made = [];
  keeps = keeps;
  wrote = sym (unwritten [] (λ w. refl) (wrote_of s));
  called = refused_call (shape_in store) s.session (seen s) (own_of s) is.own (reads_of s) command line refused;
  count = omega arith;
  ends = tt;
  reads = keeps_stays;
  took = took_none (shape_in store) (events_of (shape_in store) (own_of s) (reads_of s) s.session command []) (seen s) (taken_by s);
}

-- The session's pass may make an event that stands by what it has open and fits each core.
pub may_make : (store : StoreView) (s : Session) (e : CoreEvent) → IsSession store s → HasRoomFor 1 s → IsOfSession s.session e → thawed_part (shape_in store) e ≡ None
    → Stands (shape_in store) e (parts_seen (shape_in store) s.pass.seat.me.0) → FitsEach (shape_in store) e → MayMake store s.pass.seat s.pass.hands e
may_make store s e is room mine thawless stands fits = record {
  session = s.session;
  own = own_of s;
  at' = is.stands;
  mine = mine;
  thawless = thawless;
  stands = stands;
  fits = fits;
  few = omega (arith, room);
}

-- What is open is what its session's events are handed.
pub own_stands : (store : StoreView) (s : Session) (own : OwnTransaction) → IsSession store s → own_of s ≡ Some own
    → (own.session ≡ s.session) × OwnsAll (shape_in store) own (parts_seen (shape_in store) s.pass.seat.me.0)
own_stands store s own is some' = subst (HasOpened (shape_in store) (parts_seen (shape_in store) s.pass.seat.me.0) s.session) some' is.stands.within.knows.opened

-- what is open for a key is what its session's events on the key are handed
pub key_stands : (store : StoreView) (s : Session) (own : OwnTransaction) (table : ℕ) (key : ℤ) → IsSession store s → own_of s ≡ Some own
    → OwnsKey (shape_in store) (own_key table key own) table key (parts_seen (shape_in store) s.pass.seat.me.0)
key_stands store s own table key is some' = keys (shape_in store) (parts_seen (shape_in store) s.pass.seat.me.0) own table key (own_stands store s own is some').1

-- an event that takes no memory tells what the core replies
pub told_always : (store : StoreView) (session : ℕ) (old new : SeatView) (hands : HandsView) (own : Option OwnTransaction) (e : CoreEvent) (told : CoreReply)
    → (m : Makes store session old new hands own e told) → takes_memory e ≡ false
    → told ≡ reply_to (shape_in store) (parts_after (shape_in store) m.makes.before) e
told_always store session old new hands own e told m never = go (is_memory told) refl m.makes.reply
  where
    go : (b : Bool) → is_memory told ≡ b → told ≡ reply_after (shape_in store) (parts_after (shape_in store) m.makes.before) (record { event = e; refused = b }) → told ≡ reply_to (shape_in store) (parts_after (shape_in store) m.makes.before) e
    go true is r = absurd (true≢false (sym (m.refuses is) ∙ never))
    go false is r = r

-- what a session has open, or that it has nothing
pub own_open : (s : Session) → is_some (own_of s) ≡ true → (t : OwnTransaction) × (own_of s ≡ Some t)
own_open s open' = go (own_of s) open'
  where
    go : (o : Option OwnTransaction) → is_some o ≡ true → (t : OwnTransaction) × (o ≡ Some t)
    go None h = absurd (true≢false (sym h))
    go (Some t) h = (t, refl)

-- a session without a snapshot has nothing open
pub none_open : (s : Session) → is_some s.snapshot ≡ false → own_of s ≡ None
none_open s shut = go s.snapshot shut
  where
    go : (o : Option Snapshot) → is_some o ≡ false → option_map (opened_at s.session s.writes) o ≡ None
    go None h = refl
    go (Some x) h = absurd (true≢false h)

-- an event on a key is handed what its session has open
pub key_handed : (table : ℕ) (key : ℤ) (o : Option OwnTransaction) (t : OwnTransaction) (k : OwnKey) → o ≡ Some t → option_map (own_key table key) o ≡ Some k → k ≡ own_key table key t
key_handed table key o t k is handed = some_is k (own_key table key t) (sym handed ∙ ap (option_map (own_key table key)) is)
  where
    some_is : (a b : OwnKey) → Some a ≡ Some b → a ≡ b
    some_is a b e = cc

-- an event is refused memory, or tells what the core replies
pub told_or_memory : (store : StoreView) (session : ℕ) (old new : SeatView) (hands : HandsView) (own : Option OwnTransaction) (e : CoreEvent) (told : CoreReply)
    → (m : Makes store session old new hands own e told)
    → (told ≡ reply.Memory) ⊎ (told ≡ reply_to (shape_in store) (parts_after (shape_in store) m.makes.before) e)
told_or_memory store session old new hands own e told m = go (is_memory told) refl m.makes.reply
  where
    go : (b : Bool) → is_memory told ≡ b → told ≡ reply_after (shape_in store) (parts_after (shape_in store) m.makes.before) (record { event = e; refused = b })
        → (told ≡ reply.Memory) ⊎ (told ≡ reply_to (shape_in store) (parts_after (shape_in store) m.makes.before) e)
    go true is r = inl r
    go false is r = inr r

-- a command that found no memory before its first event leaves the session as it was
unfoldable pub unmade : (store : StoreView) (s : Session) (writes : PlaceMap ℕ) (command : Command) → IsSession store s → refusal_of command (own_of s) ≡ None → may_lack_memory command ≡ true
    → Answers store s (record { pass = s.pass; session = s.session; snapshot = s.snapshot; writes = writes; reads = s.reads; kept = s.kept }) command said.Memory
unmade store s writes command is granted may = record {
  made = [];
  keeps = refl;
  wrote = sym (unwritten [] (λ w. refl) (wrote_of s));
  called = unmade_call (shape_in store) s.session (seen s) (own_of s) is.own (reads_of s) command granted may;
  count = omega arith;
  ends = tt;
  reads = keeps_stays;
  took = took_none (shape_in store) (events_of (shape_in store) (own_of s) (reads_of s) s.session command []) (seen s) (taken_by s);
}

-- whether the row of an event's key was written
pub written_there : (s : Session) (t : OwnTransaction) (table : ℕ) (key : ℤ) (place : Place) (handed : OwnKey) (had : Bool)
    → own_of s ≡ Some t → handed ≡ own_key table key t → had ≡ is_some handed.written → place ≡ place_at table key → is_some (at_place s.writes place) ≡ had
written_there s t table key place handed had open' is has there =
    ap (λ p. is_some (at_place s.writes p)) there
    ∙ ap (λ (w : PlaceMap ℕ). is_some (at_place w (place_at table key))) (go s.snapshot open')
    ∙ sym (has ∙ ap (λ (k : OwnKey). is_some k.written) is)
  where
    some_is : (a b : OwnTransaction) → Some a ≡ Some b → a ≡ b
    some_is a b e = cc

    never : Option OwnTransaction → Bool
    never None = true
    never (Some x) = false

    go : (o : Option Snapshot) → option_map (opened_at s.session s.writes) o ≡ Some t → s.writes ≡ t.writes
    go None e = absurd (true≢false (ap never e))
    go (Some sn) e = ap (λ (x : OwnTransaction). x.writes) (some_is (opened_at s.session s.writes sn) t e)

-- a begin is refused where something is open
pub begin_refused : (s : Session) (checked : Bool) → is_some s.snapshot ≡ true → refusal_of (Begin checked) (own_of s) ≡ Some said.InTransaction
begin_refused s checked open' = go s.snapshot open'
  where
    go : (o : Option Snapshot) → is_some o ≡ true → refusal_of (Begin checked) (option_map (opened_at s.session s.writes) o) ≡ Some said.InTransaction
    go None h = absurd (true≢false (sym h))
    go (Some x) h = refl

-- A write's reply is no image.
pub write_unshared : (told : CoreReply) → IsWriteReply told → is_shared told ≡ false
write_unshared (reply.Begun snapshot) is = refl
write_unshared (reply.Found row) is = refl
write_unshared (reply.Written slot) is = refl
write_unshared (reply.Refused fault) is = refl
write_unshared (reply.Rows rows) is = refl
write_unshared (reply.Shared rows) is = absurd is
write_unshared (reply.Committed number) is = refl
write_unshared (reply.Stale what number) is = refl
write_unshared reply.Aborted is = refl
write_unshared (reply.Oldest stamp) is = refl
write_unshared (reply.Turned turned) is = refl
write_unshared (reply.Dropped count) is = refl
write_unshared (reply.Looked look) is = refl
write_unshared (reply.Moved count) is = refl
write_unshared (reply.Sealed stamp) is = refl
write_unshared (reply.NotSealed fault) is = refl
write_unshared (reply.Imaged rows) is = refl
write_unshared reply.NoSeal is = refl
write_unshared reply.Thawed is = refl
write_unshared reply.Memory is = refl

-- events that tell no image are as many as they are
pub all_events : (made : List Occurrence) → list_all is_event made ≡ true → count_by is_event made ≡ length made
all_events [] all = refl
all_events (o ∷ made) all =
    let both = and_parts (is_event o) (list_all is_event made) all in
    let rest = all_events made both.1 in
    let one : cond {A = ℕ} (is_event o) 1 0 ≡ 1 = ap (λ b. cond {A = ℕ} b 1 0) both.0 in
    events_one o made ∙ ap (λ n. n + count_by is_event made) one ∙ omega (arith, rest)
  where
    events_one : (o : Occurrence) (made : List Occurrence) → count_by is_event (o ∷ made) ≡ cond {A = ℕ} (is_event o) 1 0 + count_by is_event made
    events_one o made =
        let parted : count_by is_event (o ∷ made) ≡ (0 + cond {A = ℕ} (is_event o) 1 0) + count_by is_event made =
        sum_by-append (λ (o : Occurrence). cond {A = ℕ} (is_event o) 1 0) (o ∷ []) made in
        omega (arith, parted)

-- a log that ends with the last of these, where it is an event, ends with the call's last
pub ends_call : (told : Said) (made : List Occurrence) (log : List Logged) → EndsWithLast made log → EndsCall told made log
ends_call told made log ends = go (last_or None made) ends
  where
    go : (o : Option Occurrence)
        → IfSome o (λ last. is_event last ≡ true → (before : List Logged) × (log ≡ before ++ entry_of last.session last.event last.reply ∷ []))
        → IfSome o (λ last. is_event last ≡ true → (told ≡ said.Memory → reads_block last.event ≡ true → is_refused last ≡ true)
        → (before : List Logged) × (log ≡ before ++ entry_of last.session last.event last.reply ∷ []))
    go None e = tt
    go (Some last) e = λ event' wanting. e event'
