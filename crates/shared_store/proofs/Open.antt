-- What a session has open by the machine, from call to call.
use Rattle.std.proofs.Common.{◌≡◌, ℕ, ℤ, true, false, List, [], ◌∷◌, ◌++◌, Option, None, Some, Result, Ok, Err, is_some, option_map, refl, sym, ap, subst, ◌∙◌, append-nil, true≢false}
use Rattle.std.specs.BTreeMap.{insert_entry}
use Rattle.std.proofs.lemmas.List.{append_cancel_right}
use Rattle.block_spec.specs.Slots.{Row}
use Rattle.core_laws.specs.Events.Laws.{IsStep, command_in}
use Rattle.event_spec.specs.declared.event.Event.TheVariants as event
use Rattle.event_spec.specs.declared.own.OwnKey.{OwnKey}
use Rattle.event_spec.specs.declared.own.OwnTransaction.{OwnTransaction}
use Rattle.event_spec.specs.declared.reply.Reply.TheVariants as reply
use Rattle.event_spec.specs.Effects.{CoreEvent}
use Rattle.event_spec.specs.Lawful.{reads_handed}
use Rattle.event_spec.specs.Replay.{IsLawfulLog}
use Rattle.event_spec.specs.Replies.{CoreReply}
use Rattle.event_spec.specs.Sound.{IsShape}
use Rattle.isolation_spec.specs.Contents.{History, PlaceMap, WriteSet, place_cmp, place_of}
use Rattle.isolation_spec.specs.Checked.{step_with}
use Rattle.isolation_spec.specs.Machine.{IsolationMachine}
use Rattle.isolation_spec.specs.declared.command.Act.TheVariants as act
use Rattle.isolation_spec.specs.declared.command.Answer.TheVariants as answer
use Rattle.isolation_spec.specs.declared.command.Command.{Command}
use Rattle.run_spec.specs.Handed.{own_in}
use Rattle.run_spec.specs.Occurrences.{Logged}
use Rattle.store_laws.specs.Logs.{made_in}
use Rattle.store_laws.specs.Machines.{HasOpenIn, machine_after, stale_since}
use Rattle.store_laws.specs.Own.{MakesOne, StandsUnder, entry_of, occurrence_at, parts_after}
use Rattle.store_laws.proofs.Entries.{own_grows}
use Rattle.store_laws.proofs.Machines.{last_step, more_commits, quiet_on}
use Rattle.store_laws.proofs.Stepping.{Leaves, begun, committed, found, insert_left, inserted, open_on, ranged, stands, stays_stale}
use Rattle.txn_desk.specs.declared.Snapshot.{Snapshot}
use Rattle.run_spec.specs.Told.{in_key_order}
use Rattle.shared_store.specs.Open.{Commits, FindsBetween, FindsRow, IsOpen, Opens, StaysOpen, WritesRow, commits_seen, machine_of}
use Rattle.shared_store.specs.Store.{IsSession, StoreView, opened_at, own_of, reads_of, seen, shape_in}
use Rattle.shared_store.specs.declared.faults.Stale.{Stale}
use Rattle.shared_store.specs.Writing.{IsWriteReply, is_written}
use Rattle.shared_store.specs.declared.session.Session.{Session}

-- the front of a log whose events stand under a session
under_front : (q : ℕ) (log more : List Logged) → StandsUnder q (log ++ more) → StandsUnder q log
under_front q [] more all = tt
under_front q (entry ∷ log) more all = (all.0, under_front q log more all.1)

-- A session's log, before the one event that it made and behind it.
module _ (store : StoreView) (q : ℕ) (earlier later : List Logged) (e : CoreEvent) (told : CoreReply)
    (measures : IsShape (shape_in store)) (lawful : IsLawfulLog (shape_in store) (made_in later)) (under : StandsUnder q later)
    (m : MakesOne (shape_in store) q earlier later e told) where
  abbrev entry : Logged
  entry = entry_of q e told

  abbrev at_event : IsolationMachine
  at_event = machine_after (shape_in store) m.before

  own_before : own_in (shape_in store) q m.before ≡ own_in (shape_in store) q earlier
  own_before = append_cancel_right (own_in (shape_in store) q m.before) (own_in (shape_in store) q earlier) (occurrence_at q (parts_after (shape_in store) m.before) e told ∷ [])
      (ap (λ r. own_in (shape_in store) q m.before ++ occurrence_at q (parts_after (shape_in store) m.before) e r ∷ []) m.reply
      ∙ sym (own_grows (shape_in store) q m.before entry refl)
      ∙ ap (own_in (shape_in store) q) (sym m.log)
      ∙ m.own)

  -- up to the event the session's transaction is as it was
  pub before_left : Leaves q (machine_after (shape_in store) earlier) at_event
  before_left = quiet_on (shape_in store) q earlier m.before [] m.goes_on
      (own_before ∙ sym (append-nil (own_in (shape_in store) q earlier))) tt
      (under_front q m.before (entry ∷ []) (subst (StandsUnder q) m.log under))

  -- the machine takes the event as it may
  pub event_step : IsStep (command_in e) (reads_handed e) at_event told (machine_after (shape_in store) later)
  event_step =
      subst (λ r. IsStep (command_in e) (reads_handed e) at_event r (machine_after (shape_in store) later)) (sym m.reply)
      (subst (λ l. IsStep (command_in e) (reads_handed e) at_event (Rattle.event_spec.specs.Replay.reply_after (shape_in store) (parts_after (shape_in store) m.before) entry.made) (machine_after (shape_in store) l)) (sym m.log)
      (last_step (shape_in store) m.before entry measures (subst (λ l. IsLawfulLog (shape_in store) (made_in l)) m.log lawful)))

-- ---- a session

-- the store's measures are sound
pub measures_of : (store : StoreView) (s : Session) → IsSession store s → IsShape (shape_in store)
measures_of store s is = is.stands.within.pass.of.1.sound.measures

-- a session's own events stand under it
pub under_of : (store : StoreView) (q : ℕ) (s : Session) → IsSession store s → s.session ≡ q → StandsUnder q (seen s)
under_of store q s is same = subst (λ r. StandsUnder r (seen s)) same is.stands.within.knows.under

-- A session that made one event.
module _ (store : StoreView) (old new : Session) (e : CoreEvent) (told : CoreReply) (is : IsSession store old) (later : IsSession store new) (same : new.session ≡ old.session)
    (m : MakesOne (shape_in store) old.session (seen old) (seen new) e told) where
  abbrev middle : IsolationMachine
  middle = machine_after (shape_in store) m.before

  left : Leaves old.session (machine_of store old) middle
  left = before_left store old.session (seen old) (seen new) e told (measures_of store old is) later.lawful (under_of store old.session new later same) m

  step_is : IsStep (command_in e) (reads_handed e) middle told (machine_of store new)
  step_is = event_step store old.session (seen old) (seen new) e told (measures_of store old is) later.lawful (under_of store old.session new later same) m

  -- what was open is so at the event
  still : (commits : History) (own : WriteSet) → IsOpen store old commits own → HasOpenIn old.session middle commits own
  still commits own o = open_on old.session (machine_of store old) middle commits own o.has left

  -- the session's own, behind it
  opened : (commits : History) (own : WriteSet) → is_some (own_of new) ≡ true → HasOpenIn old.session (machine_of store new) commits own → IsOpen store new commits own
  opened commits own busy has = record { busy = busy; has = subst (λ q. HasOpenIn q (machine_of store new) commits own) (sym same) has }

  -- where the machine is as it was at the event
  unmoved : (commits : History) (own : WriteSet) → is_some (own_of new) ≡ true → IsOpen store old commits own → middle ≡ machine_of store new → IsOpen store new commits own
  unmoved commits own busy o stays = opened commits own busy (subst (λ x. HasOpenIn old.session x commits own) stays (still commits own o))

-- ---- calls

-- a session with a snapshot has something open, whatever it wrote
pub busy_of : (s : Session) → is_some s.snapshot ≡ true → is_some (own_of s) ≡ true
busy_of s h = go s.snapshot h
  where
    go : (x : Option Snapshot) → is_some x ≡ true → is_some (option_map (opened_at s.session s.writes) x) ≡ true
    go None h = h
    go (Some x) h = refl

-- and one with something open has a snapshot
pub shut_of : (s : Session) → is_some (own_of s) ≡ true → is_some s.snapshot ≡ true
shut_of s h = go s.snapshot h
  where
    go : (x : Option Snapshot) → is_some (option_map (opened_at s.session s.writes) x) ≡ true → is_some x ≡ true
    go None h = h
    go (Some x) h = refl

-- a session as it was, but for the room of its writes
pub nothing_made : (store : StoreView) (s : Session) (writes : PlaceMap ℕ) → StaysOpen store s (record { pass = s.pass; session = s.session; snapshot = s.snapshot; writes = writes; reads = s.reads; kept = s.kept })
nothing_made store s writes commits own o = record {
  busy = busy_of (record { pass = s.pass; session = s.session; snapshot = s.snapshot; writes = writes; reads = s.reads; kept = s.kept }) (shut_of s o.busy);
  has = o.has;
}

-- a begin
pub begins_open : (store : StoreView) (old new : Session) (snapshot : Snapshot) → IsSession store old → IsSession store new → new.session ≡ old.session
    → MakesOne (shape_in store) old.session (seen old) (seen new) (event.Begin old.session) (reply.Begun snapshot)
    → own_of old ≡ None → is_some (own_of new) ≡ true → Opens store old new snapshot.number
begins_open store old new snapshot is later same m none' busy =
    let e = event.Begin old.session in
    let told : CoreReply = reply.Begun snapshot in
    let mid = middle store old new e told is later same m in
    let b = begun false old.session snapshot.number mid (machine_of store new) (step_is store old new e told is later same m) in
    record {
      began = none';
      is_open = opened store old new e told is later same m (commits_seen store new) [] busy (subst (λ (h : History). HasOpenIn old.session (machine_of store new) h []) (sym b.2) b.0);
      counts = b.1 ∙ ap (λ (h : History). Rattle.std.proofs.Common.length h) (sym b.2);
      goes_on = more_commits (shape_in store) (seen old) (seen new) (m.goes_on.0 ++ entry_of old.session e told ∷ [], m.log ∙ ap (λ l. l ++ entry_of old.session e told ∷ []) m.goes_on.1 ∙ Rattle.std.proofs.Common.append_assoc (seen old) m.goes_on.0 (entry_of old.session e told ∷ []));
    }

-- a get that found
pub finds_row : {E : Type 0} (store : StoreView) (old new : Session) (k : OwnKey) (table : ℕ) (key : ℤ) (row : Option Row) → IsSession store old → IsSession store new → new.session ≡ old.session
    → k.session ≡ old.session
    → MakesOne (shape_in store) old.session (seen old) (seen new) (event.Get k table key) (reply.Found row)
    → is_some (own_of new) ≡ true → FindsRow {E = E} store old new table key (Ok row)
finds_row store old new k table key row is later same mine m busy commits own o =
    let e = event.Get k table key in
    let told : CoreReply = reply.Found row in
    let mid = middle store old new e told is later same m in
    let f = found old.session mid (machine_of store new) commits own (still store old new e told is later same m commits own o) table key row
    (subst (λ q. Rattle.isolation_spec.specs.Machine.step mid (record { session = q; act = Rattle.isolation_spec.specs.declared.command.Act.TheVariants.Get table key }) ≡ (Rattle.isolation_spec.specs.declared.command.Answer.TheVariants.Found row, machine_of store new)) mine (step_is store old new e told is later same m)) in
    record { is_open = unmoved store old new e told is later same m commits own busy o f.1; row = f.0 }

-- a get that found no memory
pub finds_nothing : {E : Type 0} (store : StoreView) (old new : Session) (k : OwnKey) (table : ℕ) (key : ℤ) (memory : E) → IsSession store old → IsSession store new → new.session ≡ old.session
    → MakesOne (shape_in store) old.session (seen old) (seen new) (event.Get k table key) reply.Memory
    → is_some (own_of new) ≡ true → FindsRow {E = E} store old new table key (Err memory)
finds_nothing store old new k table key memory is later same m busy commits own o =
    let s = step_is store old new (event.Get k table key) reply.Memory is later same m in
    record { is_open = unmoved store old new (event.Get k table key) reply.Memory is later same m commits own busy o (sym s.2); row = tt }

-- a range that found rows
pub finds_range : {E : Type 0} (store : StoreView) (old new : Session) (t : OwnTransaction) (table : ℕ) (low high : ℤ) (listed rows : List Row) → IsSession store old → IsSession store new → new.session ≡ old.session
    → t.session ≡ old.session
    → MakesOne (shape_in store) old.session (seen old) (seen new) (event.Range t table low high) (reply.Rows listed)
    → is_some (own_of new) ≡ true → rows ≡ in_key_order table listed → FindsBetween {E = E} store old new table low high (Ok rows)
finds_range store old new t table low high listed rows is later same mine m busy ordered commits own o =
    let e = event.Range t table low high in
    let told : CoreReply = reply.Rows listed in
    let mid = middle store old new e told is later same m in
    let f = ranged old.session mid (machine_of store new) commits own (still store old new e told is later same m commits own o) table low high (in_key_order table listed)
    (subst (λ q. Rattle.isolation_spec.specs.Machine.step mid (record { session = q; act = act.Range table low high }) ≡ (answer.Rows (in_key_order table listed), machine_of store new)) mine (step_is store old new e told is later same m)) in
    record { is_open = unmoved store old new e told is later same m commits own busy o f.1; rows = ordered ∙ f.0 }

-- a range whose rows were found, with no memory for them
pub finds_unranged : {E : Type 0} (store : StoreView) (old new : Session) (t : OwnTransaction) (table : ℕ) (low high : ℤ) (listed : List Row) (memory : E) → IsSession store old → IsSession store new → new.session ≡ old.session
    → t.session ≡ old.session
    → MakesOne (shape_in store) old.session (seen old) (seen new) (event.Range t table low high) (reply.Rows listed)
    → is_some (own_of new) ≡ true → FindsBetween {E = E} store old new table low high (Err memory)
finds_unranged {E} store old new t table low high listed memory is later same mine m busy commits own o = record {
  is_open = (finds_range {E = E} store old new t table low high listed (in_key_order table listed) is later same mine m busy refl commits own o).is_open;
  rows = tt;
}

-- a range that found no memory
pub finds_no_range : {E : Type 0} (store : StoreView) (old new : Session) (t : OwnTransaction) (table : ℕ) (low high : ℤ) (memory : E) → IsSession store old → IsSession store new → new.session ≡ old.session
    → MakesOne (shape_in store) old.session (seen old) (seen new) (event.Range t table low high) reply.Memory
    → is_some (own_of new) ≡ true → FindsBetween {E = E} store old new table low high (Err memory)
finds_no_range store old new t table low high memory is later same m busy commits own o =
    let s = step_is store old new (event.Range t table low high) reply.Memory is later same m in
    record { is_open = unmoved store old new (event.Range t table low high) reply.Memory is later same m commits own busy o (sym s.2); rows = tt }

-- an insert, by its reply
pub inserts_row : {X E : Type 0} (store : StoreView) (old new : Session) (k : OwnKey) (table : ℕ) (row : Row) (told : CoreReply) (answer : Result X E)
    → IsSession store old → IsSession store new → new.session ≡ old.session → k.session ≡ old.session
    → MakesOne (shape_in store) old.session (seen old) (seen new) (event.Insert k table row) told
    → is_some (own_of new) ≡ true → IsWriteReply told → Rattle.std.specs.Prelude.is_ok answer ≡ is_written told
    → WritesRow store old new (place_of table row) (Some row) answer
inserts_row store old new k table row (reply.Written slot) (Ok done) is later same mine m busy write ok = λ commits own o.
    let e = event.Insert k table row in
    let told : CoreReply = reply.Written slot in
    let mid = middle store old new e told is later same m in
    opened store old new e told is later same m commits (insert_entry place_cmp own (place_of table row) (Some row)) busy
    (inserted old.session mid (machine_of store new) commits own (still store old new e told is later same m commits own o) table row
    (subst (λ q. Rattle.isolation_spec.specs.Machine.step mid (record { session = q; act = Rattle.isolation_spec.specs.declared.command.Act.TheVariants.Insert table row }) ≡ (Rattle.isolation_spec.specs.declared.command.Answer.TheVariants.Accepted, machine_of store new)) mine (step_is store old new e told is later same m)))
inserts_row store old new k table row (reply.Refused why) (Err fault) is later same mine m busy write ok = λ commits own o.
    let e = event.Insert k table row in
    let told : CoreReply = reply.Refused why in
    let mid = middle store old new e told is later same m in
    unmoved store old new e told is later same m commits own busy o
    (insert_left old.session mid (machine_of store new) commits own (still store old new e told is later same m commits own o) table row why
    (subst (λ q. Rattle.core_laws.specs.Events.Laws.IsTold mid None (record { session = q; act = Rattle.isolation_spec.specs.declared.command.Act.TheVariants.Insert table row }) told (machine_of store new)) mine (step_is store old new e told is later same m)))
inserts_row store old new k table row reply.Memory (Err fault) is later same mine m busy write ok = λ commits own o.
    let s = step_is store old new (event.Insert k table row) reply.Memory is later same m in
    unmoved store old new (event.Insert k table row) reply.Memory is later same m commits own busy o (sym s.2)
inserts_row store old new k table row (reply.Written slot) (Err fault) is later same mine m busy write ok = absurd (true≢false (sym ok))
inserts_row store old new k table row (reply.Refused why) (Ok done) is later same mine m busy write ok = absurd (true≢false ok)
inserts_row store old new k table row reply.Memory (Ok done) is later same mine m busy write ok = absurd (true≢false ok)
inserts_row store old new k table row (reply.Begun snapshot) answer is later same mine m busy write ok = absurd write
inserts_row store old new k table row (reply.Found x) answer is later same mine m busy write ok = absurd write
inserts_row store old new k table row (reply.Rows rows) answer is later same mine m busy write ok = absurd write
inserts_row store old new k table row (reply.Shared rows) answer is later same mine m busy write ok = absurd write
inserts_row store old new k table row (reply.Committed number) answer is later same mine m busy write ok = absurd write
inserts_row store old new k table row (reply.Stale what number) answer is later same mine m busy write ok = absurd write
inserts_row store old new k table row reply.Aborted answer is later same mine m busy write ok = absurd write
inserts_row store old new k table row (reply.Oldest stamp) answer is later same mine m busy write ok = absurd write
inserts_row store old new k table row (reply.Turned turned) answer is later same mine m busy write ok = absurd write
inserts_row store old new k table row (reply.Dropped count) answer is later same mine m busy write ok = absurd write
inserts_row store old new k table row (reply.Looked look) answer is later same mine m busy write ok = absurd write
inserts_row store old new k table row (reply.Moved count) answer is later same mine m busy write ok = absurd write
inserts_row store old new k table row (reply.Sealed stamp) answer is later same mine m busy write ok = absurd write
inserts_row store old new k table row (reply.NotSealed because) answer is later same mine m busy write ok = absurd write
inserts_row store old new k table row (reply.Imaged rows) answer is later same mine m busy write ok = absurd write
inserts_row store old new k table row reply.NoSeal answer is later same mine m busy write ok = absurd write
inserts_row store old new k table row reply.Thawed answer is later same mine m busy write ok = absurd write

-- a commit, with the reads that it hands in
module _ (store : StoreView) (old new : Session) (t : OwnTransaction) (is : IsSession store old) (later : IsSession store new) (same : new.session ≡ old.session) (mine : t.session ≡ old.session) where
  abbrev committing : CoreEvent
  committing = event.Commit t (reads_of old)

  abbrev asking : ℕ → Command
  asking q = record { session = q; act = act.Commit }

  -- one that stands
  pub commits_own : (number : Option ℕ) → MakesOne (shape_in store) old.session (seen old) (seen new) committing (reply.Committed number) → Commits store old new (Ok number)
  commits_own number m commits own o =
      let told : CoreReply = reply.Committed number in
      let mid = middle store old new committing told is later same m in
      let open' = still store old new committing told is later same m commits own o in
      let stood = stands old.session mid (machine_of store new) commits own open' (reads_of old) number
      (subst (λ q. step_with mid (reads_of old) (asking q) ≡ (answer.Committed number, machine_of store new)) mine (step_is store old new committing told is later same m)) in
      record {
        before = mid.history;
        goes_on = (left store old new committing told is later same m).more;
        adds = committed old.session mid (machine_of store new) commits own open' number stood.1;
        stands = stood.0;
      }

  -- one that is refused leaves all as it was
  pub commits_stale : (stale : Stale) → MakesOne (shape_in store) old.session (seen old) (seen new) committing (reply.Stale stale.read stale.number)
      → own_of new ≡ own_of old → reads_of new ≡ reads_of old → Commits store old new (Err stale)
  commits_stale stale m opened kept = record {
    opened = opened;
    reads = kept;
    is_open = λ commits own o. unmoved store old new committing told is later same m commits own (ap (λ (x : Option OwnTransaction). is_some x) opened ∙ o.busy) o (refused commits own o).1;
    wrote = λ commits own o.
        ap (λ (x : IsolationMachine). stale_since x.history commits own (reads_of old)) (sym (refused commits own o).1) ∙ (refused commits own o).0;
  }
    where
      told : CoreReply
      told = reply.Stale stale.read stale.number

      refused : (commits : History) (own : WriteSet) → IsOpen store old commits own
          → (stale_since (middle store old new committing told is later same m).history commits own (reads_of old) ≡ Some (stale.read, stale.number))
          × (middle store old new committing told is later same m ≡ machine_of store new)
      refused commits own o =
          let mid = middle store old new committing told is later same m in
          stays_stale old.session mid (machine_of store new) commits own (still store old new committing told is later same m commits own o) (reads_of old) stale.read stale.number
          (subst (λ q. step_with mid (reads_of old) (asking q) ≡ (answer.Stale stale.read stale.number, machine_of store new)) mine (step_is store old new committing told is later same m))

-- a session that saw more and made nothing
pub sees_on : (store : StoreView) (old new : Session) → IsSession store new → new.session ≡ old.session → own_of new ≡ own_of old
    → Rattle.run_spec.specs.Handed.GoesOn (seen old) (seen new) → own_in (shape_in store) old.session (seen new) ≡ own_in (shape_in store) old.session (seen old)
    → StaysOpen store old new
sees_on store old new later same opened goes own commits writes o = record {
  busy = ap (λ (x : Option OwnTransaction). is_some x) opened ∙ o.busy;
  has = subst (λ q. HasOpenIn q (machine_of store new) commits writes) (sym same)
      (open_on old.session (machine_of store old) (machine_of store new) commits writes o.has
      (quiet_on (shape_in store) old.session (seen old) (seen new) [] goes (own ∙ sym (append-nil (own_in (shape_in store) old.session (seen old)))) tt
      (under_of store old.session new later same)));
}
