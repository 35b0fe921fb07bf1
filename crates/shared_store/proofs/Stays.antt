-- Calls whose events are none of the machine's: what is open stays so.
use Rattle.std.proofs.Common.{◌≡◌, ℕ, ◌≤◌, false, List, [], ◌∷◌, ◌++◌, Option, None, Some, Result, Ok, Err, is_some, fold, length, map, refl, sym, ap, subst, ◌∙◌, length-append, true≢false, arith}
use mathlib.Core.Logic.{inl, inr}
use Rattle.std.specs.Prelude.{IfOk, IsErr}
use Rattle.std.specs.List.{filter_map, flat_map}
use Rattle.std.proofs.lemmas.List.{length-map}
use Rattle.std.proofs.lemmas.List.Sums.{fold-append}
use Rattle.block_spec.specs.Slots.{Row}
use Rattle.core_laws.specs.Events.Laws.{command_in}
use Rattle.event_spec.specs.declared.event.Event.TheVariants as event
use Rattle.event_spec.specs.declared.event.MovePair.{MovePair}
use Rattle.event_spec.specs.declared.own.OwnTransaction.{OwnTransaction}
use Rattle.event_spec.specs.Effects.{CoreEvent}
use Rattle.event_spec.specs.Lawful.{OwnsAll}
use Rattle.event_spec.specs.Parts.{Parts, Shape, below, blocks_of, tables_of}
use Rattle.event_spec.specs.Plans.{plan_of}
use Rattle.event_spec.specs.Replies.{CoreReply}
use Rattle.isolation_spec.specs.Contents.{History, WriteSet, contents_of}
use Rattle.run_spec.specs.Asked.{at_all_blocks, at_blocks, by_own, events_of, looks_in, moves, oldest_told}
use Rattle.run_spec.specs.Calls.{Call, IsCallBy}
use Rattle.run_spec.specs.Handed.{GoesOn, Stretch, own_in}
use Rattle.run_spec.specs.Traces.{as_log}
use Rattle.store_laws.proofs.Lent.{EachEvent, events_each, events_grown, own_events, stretch_goes, whole_lawful, whole_log, whole_own, whole_under}
use Rattle.store_laws.specs.Stretches.{is_event}
use Rattle.std.proofs.lemmas.List.Sums.{count_by-le-length}
use Rattle.run_spec.specs.Occurrences.{Occurrence, events_in, replies_in}
use Rattle.run_spec.specs.Opened.{own_after, own_behind}
use Rattle.run_spec.specs.Told.{refusal_of}
use Rattle.store_laws.specs.Machines.{HasOpenIn, rows_seen}
use Rattle.store_laws.specs.Own.{StandsUnder, parts_after}
use Rattle.store_laws.proofs.Entries.{replay_same}
use Rattle.store_laws.proofs.Machines.{AreQuiet, more_commits, quiet_on}
use Rattle.store_laws.proofs.Scanning.{reads_tell_each_once, reads_tell_the_rows}
use Rattle.store_laws.proofs.Stepping.{more_again, open_on}
use Rattle.workload_spec.specs.declared.command.Command.{Command}
use Rattle.workload_spec.specs.declared.command.Command.TheVariants as command
use Rattle.workload_spec.specs.declared.reply.Said.{Said}
use Rattle.shared_store.specs.Open.{FindsRows, IsOpen, LeavesOpen, commits_seen, machine_of}
use Rattle.shared_store.specs.Reading.{IsReadOf, ReadsBlock, Went}
use Rattle.shared_store.specs.Scanning.{Scans}
use Rattle.shared_store.specs.Store.{Answers, IsSession, MakesAtMost, StoreView, own_of, seen, shape_in, reads_of}
use Rattle.shared_store.specs.Sweeping.{Sweeps}
use Rattle.shared_store.specs.declared.session.Session.{Session}
use Rattle.shared_store.proofs.Calls.{own_stands}
use Rattle.shared_store.proofs.Open.{measures_of, under_of}
use Rattle.shared_store.proofs.Scanned.{plain_granted}
use Rattle.shared_store.proofs.Swept.{at_tables}
use Rattle.isolation_spec.specs.Reads.{ReadSet}
use Rattle.run_spec.specs.Occurrences.{Logged}
use Rattle.run_spec.specs.Told.{in_key_order}
use Rattle.event_spec.specs.Replay.{IsLawfulLog}
use Rattle.store_laws.specs.Logs.{made_in}
use Rattle.store_laws.specs.Scans.{HaveOwnKeys}

-- ---- events that ask the machine nothing

-- none of the events is a command
abbrev pub AskNothing : List CoreEvent → Type 0
AskNothing [] = Unit {0}
AskNothing (e ∷ es) = (command_in e ≡ None) × AskNothing es

nothing_of : {X : Type 0} (f : X → CoreEvent) → ((x : X) → command_in (f x) ≡ None) → (xs : List X) → AskNothing (map f xs)
nothing_of f none' [] = tt
nothing_of f none' (x ∷ xs) = (none' x, nothing_of f none' xs)

nothing_both : (xs ys : List CoreEvent) → AskNothing xs → AskNothing ys → AskNothing (xs ++ ys)
nothing_both [] ys first then = then
nothing_both (x ∷ xs) ys first then = (first.0, nothing_both xs ys first.1 then)

nothing_front : (xs ys : List CoreEvent) → AskNothing (xs ++ ys) → AskNothing xs
nothing_front [] ys all = tt
nothing_front (x ∷ xs) ys all = (all.0, nothing_front xs ys all.1)

nothing_flat : {X : Type 0} (f : X → List CoreEvent) → ((x : X) → AskNothing (f x)) → (xs : List X) → AskNothing (flat_map f xs)
nothing_flat f none' [] = tt
nothing_flat f none' (x ∷ xs) = nothing_both (f x) (flat_map f xs) (none' x) (nothing_flat f none' xs)

-- so is an event for each block of all tables
nothing_blocks : (shape : Shape) (e : ℕ → ℕ → CoreEvent) → ((table block : ℕ) → command_in (e table block) ≡ None) → AskNothing (at_all_blocks shape e)
nothing_blocks shape e none' = nothing_flat (λ table. at_blocks shape table (e table)) (λ table. nothing_of (e table) (none' table) (below (blocks_of shape table))) (tables_of shape)

-- ---- commands whose events are such

module _ (shape : Shape) (own : Option OwnTransaction) (reads : Option ReadSet) (session : ℕ) (made : List Occurrence) where
  pub scan_asks : (table : ℕ) → AskNothing (events_of shape own reads session (command.Scan table) made)
  scan_asks table = go own
    where
      go : (o : Option OwnTransaction) → AskNothing (by_own o (λ t. at_blocks shape table (event.Read t table)))
      go None = tt
      go (Some t) = nothing_of (event.Read t table) (λ block. refl) (below (blocks_of shape table))

  pub observe_asks : AskNothing (events_of shape own reads session command.Observe made)
  observe_asks = nothing_blocks shape event.Observe (λ table block. refl)

  pub prune_asks : AskNothing (events_of shape own reads session command.Prune made)
  prune_asks = (
    refl,
    nothing_flat (λ oldest. at_all_blocks shape (λ table block. event.Prune table block oldest))
        (λ oldest. nothing_blocks shape (λ table block. event.Prune table block oldest) (λ table block. refl))
        (filter_map oldest_told (replies_in made)),
  )

  pub compact_asks : (table : ℕ) → AskNothing (events_of shape own reads session (command.Compact table) made)
  compact_asks table = nothing_both (at_blocks shape table (event.Look table)) (moves table (plan_of (looks_in made)))
      (nothing_of (event.Look table) (λ block. refl) (below (blocks_of shape table))) (go (plan_of (looks_in made)))
    where
      go : (pairs : List MovePair) → AskNothing (moves table pairs)
      go [] = tt
      go (pair ∷ pairs) = (refl, tt)

  pub seal_asks : (table block : ℕ) → AskNothing (events_of shape own reads session (command.Seal table block) made)
  seal_asks table block = (refl, tt)

  pub gather_asks : (table block : ℕ) → AskNothing (events_of shape own reads session (command.Gather table block) made)
  gather_asks table block = (refl, tt)

-- ---- calls of such commands

-- what a call made is among its command's events, which ask nothing
made_asks : (shape : Shape) (session : ℕ) (own : Option OwnTransaction) (refusal : Option Said) (call : Call) → IsCallBy shape false session own refusal call
    → AskNothing (events_of shape own call.reads session call.command call.made) → AskNothing (events_in call.made)
made_asks shape session own (Some line) call is asks = subst (λ (made : List Occurrence). AskNothing (events_in made)) (sym is.0) tt
made_asks shape session own None call (inl whole) asks = subst AskNothing (sym whole.events) asks
made_asks shape session own None call (inr part) asks = nothing_front (events_in call.made) part.missed (subst AskNothing part.events asks)

-- and it is no longer than they are
made_few : (shape : Shape) (session : ℕ) (own : Option OwnTransaction) (refusal : Option Said) (call : Call) → IsCallBy shape false session own refusal call
    → length call.made ≤ length (events_of shape own call.reads session call.command call.made)
made_few shape session own (Some line) call is = let none' = ap (λ (made : List Occurrence). length made) is.0 in omega (arith, none')
made_few shape session own None call (inl whole) =
    let same = ap (λ (es : List CoreEvent). length es) whole.events in
    let many : length (events_in call.made) ≡ length call.made = length-map call.made (λ (o : Occurrence). o.event) in
    omega (arith, same, many)
made_few shape session own None call (inr part) =
    let same = ap (λ (es : List CoreEvent). length es) part.events in
    let both = length-append (events_in call.made) part.missed in
    let many : length (events_in call.made) ≡ length call.made = length-map call.made (λ (o : Occurrence). o.event) in
    omega (arith, same, both, many)

-- occurrences of events that ask nothing are quiet
quiet_made : (shape : Shape) (made : List Occurrence) → AskNothing (events_in made) → AreQuiet shape made
quiet_made shape [] asks = tt
quiet_made shape (o ∷ os) asks = (asks.0, quiet_made shape os asks.1)

-- An event that asks nothing opens and ends nothing.
keeps_own : (own : Option OwnTransaction) (e : CoreEvent) (told : CoreReply) → command_in e ≡ None → own_behind own e told ≡ own
keeps_own own (event.Begin session) told is = cc
keeps_own own (event.Get k table key) told is = refl
keeps_own own (event.Insert k table row) told is = cc
keeps_own own (event.Update k table row) told is = cc
keeps_own own (event.Delete k table key) told is = cc
keeps_own own (event.Read t table block) told is = refl
keeps_own own (event.Range t table low high) told is = refl
keeps_own own (event.Commit t reads) told is = cc
keeps_own own (event.Abort t) told is = cc
keeps_own own event.Oldest told is = refl
keeps_own own (event.Observe table block) told is = refl
keeps_own own (event.Prune table block oldest) told is = refl
keeps_own own (event.Look table block) told is = refl
keeps_own own (event.Move table pairs) told is = refl
keeps_own own (event.Seal table block) told is = refl
keeps_own own (event.Image table block image) told is = refl
keeps_own own (event.Thaw table block) told is = refl

-- the same of such events one after another
keep_own : (own : Option OwnTransaction) (made : List Occurrence) → AskNothing (events_in made) → fold (λ own o. own_behind own o.event o.reply) own made ≡ own
keep_own own [] asks = refl
keep_own own (o ∷ os) asks =
    ap (λ x. fold (λ own o. own_behind own o.event o.reply) x os) (keeps_own own o.event o.reply asks.0)
    ∙ keep_own own os asks.1

-- A session that made such events alone.
module _ (store : StoreView) (old new : Session) (made : List Occurrence) (later : IsSession store new) (same : new.session ≡ old.session)
    (goes : GoesOn (seen old) (seen new)) (grown : own_in (shape_in store) old.session (seen new) ≡ own_in (shape_in store) old.session (seen old) ++ made)
    (asks : AskNothing (events_in made)) where
  -- it has open what it had
  pub leaves_own : IsSession store old → own_of new ≡ own_of old
  leaves_own is =
      later.own
      ∙ ap (λ q. own_after (own_in (shape_in store) q (seen new))) same
      ∙ ap own_after grown
      ∙ fold-append (λ (own : Option OwnTransaction) (o : Occurrence). own_behind own o.event o.reply) None (own_in (shape_in store) old.session (seen old)) made
      ∙ keep_own (own_after (own_in (shape_in store) old.session (seen old))) made asks
      ∙ sym is.own

  -- and so to the machine
  pub leaves_open : own_of new ≡ own_of old → LeavesOpen store old new
  leaves_open opened = record {
    is_open = λ commits own o. record {
      busy = ap (λ (x : Option OwnTransaction). is_some x) opened ∙ o.busy;
      has = subst (λ q. HasOpenIn q (machine_of store new) commits own) (sym same)
          (open_on old.session (machine_of store old) (machine_of store new) commits own o.has
          (quiet_on (shape_in store) old.session (seen old) (seen new) made goes grown (quiet_made (shape_in store) made asks) (under_of store old.session new later same)));
    };
    rests = λ rests. opened ∙ rests;
    commits = more_commits (shape_in store) (seen old) (seen new) goes;
  }

-- What holds of each event of some occurrences, as of their events.
each_of : (made : List Occurrence) → AskNothing (events_in made) → EachEvent (λ e. command_in e ≡ None) made
each_of [] asks = tt
each_of (o ∷ os) asks = (asks.0, each_of os asks.1)

of_each : (made : List Occurrence) → EachEvent (λ e. command_in e ≡ None) made → AskNothing (events_in made)
of_each [] each = tt
of_each (o ∷ os) each = (each.0, of_each os each.1)

-- A session that made such events and lent blocks alone.
module _ (store : StoreView) (old new : Session) (made : List Occurrence) (later : IsSession store new) (same : new.session ≡ old.session)
    (s : Stretch (shape_in store) old.session (seen old) (seen new) made) (asks : AskNothing (events_in made)) where
  -- Its events alone ask nothing.
  asks_alone : AskNothing (events_in (own_events (shape_in store) old.session (seen old) (seen new) made s))
  asks_alone = of_each (own_events (shape_in store) old.session (seen old) (seen new) made s)
      (events_each (shape_in store) old.session (seen old) (seen new) made s (λ e. command_in e ≡ None) (each_of made asks))

  -- it has open what it had
  pub stretch_keeps : IsSession store old → own_of new ≡ own_of old
  stretch_keeps is = leaves_own store old new (own_events (shape_in store) old.session (seen old) (seen new) made s) later same
      (stretch_goes (shape_in store) old.session (seen old) (seen new) made s) (events_grown (shape_in store) old.session (seen old) (seen new) made s) asks_alone is

  -- and so to the machine
  pub stretch_leaves : own_of new ≡ own_of old → LeavesOpen store old new
  stretch_leaves opened = leaves_open store old new (own_events (shape_in store) old.session (seen old) (seen new) made s) later same
      (stretch_goes (shape_in store) old.session (seen old) (seen new) made s) (events_grown (shape_in store) old.session (seen old) (seen new) made s) asks_alone opened

-- A call of a command whose events ask nothing leaves what is open.
pub call_leaves : (store : StoreView) (old new : Session) (c : Command) (line : Said) → IsSession store old → IsSession store new → new.session ≡ old.session
    → Answers store old new c line → ((made : List Occurrence) → AskNothing (events_of (shape_in store) (own_after (own_in (shape_in store) old.session (seen old))) (reads_of old) old.session c made))
    → LeavesOpen store old new
call_leaves store old new c line is later same a asks =
    let front : Option OwnTransaction = own_after (own_in (shape_in store) old.session (seen old)) in
    let none' = made_asks (shape_in store) old.session front (refusal_of c front) (record { command = c; made = a.made; told = Some line; reads = reads_of old }) a.called.is_call (asks a.made) in
    stretch_leaves store old new a.made later same a.called.stretch none' (stretch_keeps store old new a.made later same a.called.stretch none' is)

-- and makes no more events than they are
pub call_few : (store : StoreView) (old new : Session) (c : Command) (line : Said) (most : ℕ) → Answers store old new c line
    → ((made : List Occurrence) → length (events_of (shape_in store) (own_after (own_in (shape_in store) old.session (seen old))) (reads_of old) old.session c made) ≤ most)
    → MakesAtMost most old new
call_few store old new c line most a few =
    let front : Option OwnTransaction = own_after (own_in (shape_in store) old.session (seen old)) in
    let one = made_few (shape_in store) old.session front (refusal_of c front) (record { command = c; made = a.made; told = Some line; reads = reads_of old }) a.called.is_call in
    let two = few a.made in
    let count = a.count in
    let events = count_by-le-length is_event a.made in
    omega (arith, one, two, count, events)

-- ---- events one after another

-- an event for each block of the first tables asks nothing where each does
pub tables_ask : (shape : Shape) (e : ℕ → ℕ → CoreEvent) → ((table block : ℕ) → command_in (e table block) ≡ None) → (tables : ℕ) → AskNothing (at_tables shape e tables)
tables_ask shape e none' tables = nothing_flat (λ table. at_blocks shape table (e table)) (λ table. nothing_of (e table) (none' table) (below (blocks_of shape table))) (below tables)

-- a session that went through such events
pub went_leaves : (store : StoreView) (old new : Session) (events : List CoreEvent) (made : List Occurrence) → Went store old new events made → AskNothing (events_in made)
    → LeavesOpen store old new
went_leaves store old new events made w asks = stretch_leaves store old new made w.session w.same w.stretch asks w.opened

-- and one that swept over them
pub swept_leaves : (store : StoreView) (asked : List CoreEvent) (tells : List Occurrence → Type 0) (old new : Session) (events : List CoreEvent) → Sweeps store asked tells old new events → AskNothing events
    → LeavesOpen store old new
swept_leaves store asked tells old new events s asks = went_leaves store old new asked s.made s.went (subst AskNothing (sym s.events_are) asks)

-- a session that read a block
pub read_leaves : (store : StoreView) (old new : Session) (own : OwnTransaction) (table block : ℕ) (told : CoreReply) → ReadsBlock store old new own table block told → LeavesOpen store old new
read_leaves store old new own table block told r = stretch_leaves store old new r.made r.session r.same r.stretch (go r.is_read) r.opened
  where
    go : IsReadOf old.session own table block told r.made → AskNothing (events_in r.made)
    go (inl one) = subst (λ (os : List Occurrence). AskNothing (events_in os)) (sym one.1) (refl, tt)
    go (inr none') = subst (λ (os : List Occurrence). AskNothing (events_in os)) (sym none'.1) tt

-- ---- scans

-- reads of some blocks ask nothing
reads_ask : (own : OwnTransaction) (table : ℕ) (blocks : List ℕ) → AskNothing (map (event.Read own table) blocks)
reads_ask own table blocks = nothing_of (event.Read own table) (λ block. refl) blocks

-- a scan that read some blocks
pub scan_leaves : (store : StoreView) (old new : Session) (own : OwnTransaction) (table count : ℕ) (read : List Row) → Scans store old new own table count read → LeavesOpen store old new
scan_leaves store old new own table count read s =
    went_leaves store old new (at_blocks (shape_in store) table (event.Read own table)) s.made s.went (subst AskNothing (sym s.events) (reads_ask own table (below count)))

-- one behind another
leaves_on : (store : StoreView) (old mid new : Session) → LeavesOpen store old mid → LeavesOpen store mid new → LeavesOpen store old new
leaves_on store old mid new first then = record {
  is_open = λ commits own o. then.is_open commits own (first.is_open commits own o);
  rests = λ rests. then.rests (first.rests rests);
  commits = more_again (commits_seen store old) (commits_seen store mid) (commits_seen store new) first.commits then.commits;
}

-- What was open stays so, and of an answer without rows nothing is said.
pub scan_unread_finds : {E : Type 0} (store : StoreView) (old mid new : Session) (own : OwnTransaction) (table count : ℕ) (read : List Row) (told : CoreReply) (found : Result (List Row) E)
    → Scans store old mid own table count read → ReadsBlock store mid new own table count told → IsErr found → FindsRows store old new table found
scan_unread_finds store old mid new own table count read told (Ok rows) s r err commits writes o = absurd (true≢false (sym err))
scan_unread_finds store old mid new own table count read told (Err memory) s r err commits writes o = record {
  is_open = (leaves_on store old mid new (scan_leaves store old mid own table count read s) (read_leaves store mid new own table count told r)).is_open commits writes o;
  rows = tt;
}

-- What a scan has of the log with its lends.
module _ (store : StoreView) (old new : Session) (own : OwnTransaction) (table : ℕ) (read : List Row)
    (is : IsSession store old) (some' : own_of old ≡ Some own) (s : Scans store old new own table (blocks_of (shape_in store) table) read) where
  mine : old.session ≡ own.session
  mine = sym (own_stands store old own is some').0

  -- the log in which each lend is its read
  abbrev whole : List Logged
  whole = whole_log (shape_in store) old.session (seen old) (seen new) s.made s.went.stretch

  lawful : IsLawfulLog (shape_in store) (made_in whole)
  lawful = whole_lawful (shape_in store) old.session (seen old) (seen new) s.made s.went.stretch s.went.session.lawful

  goes : GoesOn (seen old) whole
  goes = (as_log s.went.stretch.trace, refl)

  named : StandsUnder own.session whole
  named = subst (λ q. StandsUnder q whole) mine (whole_under (shape_in store) old.session (seen old) (seen new) s.made s.went.stretch (under_of store old.session new s.went.session s.went.same))

  owns : OwnsAll (shape_in store) own (parts_after (shape_in store) (seen old))
  owns = subst (λ (parts : Parts). OwnsAll (shape_in store) own parts) (replay_same (shape_in store) old.pass.seat.me.0.log) (own_stands store old own is some').1

  grown : own_in (shape_in store) own.session whole ≡ own_in (shape_in store) own.session (seen old) ++ s.made
  grown = subst (λ q. own_in (shape_in store) q whole ≡ own_in (shape_in store) q (seen old) ++ s.made) mine (whole_own (shape_in store) old.session (seen old) (seen new) s.made s.went.stretch)

  -- The rows of a scan that read all blocks are in key order those that the transaction sees.
  scanned_rows : (commits : History) (writes : WriteSet) → IsOpen store old commits writes → in_key_order table read ≡ contents_of table (rows_seen commits writes)
  scanned_rows commits writes o =
      ap (in_key_order table) s.rows
      ∙ (reads_tell_the_rows (shape_in store) (seen old) whole s.made own table commits writes (measures_of store old is) lawful goes named owns
      (subst (λ q. HasOpenIn q (machine_of store old) commits writes) mine o.has) grown s.events (plain_granted s.made s.plain)).ordered

  -- and no two have one key
  pub scan_once : HaveOwnKeys table read
  scan_once = subst (HaveOwnKeys table) (sym s.rows)
      (reads_tell_each_once (shape_in store) (seen old) whole s.made own table (measures_of store old is) lawful goes named owns grown s.events (plain_granted s.made s.plain))

pub scan_finds : {E : Type 0} (store : StoreView) (old new : Session) (own : OwnTransaction) (table : ℕ) (read : List Row) (found : Result (List Row) E)
    → IsSession store old → own_of old ≡ Some own → Scans store old new own table (blocks_of (shape_in store) table) read
    → IfOk found (λ rows. rows ≡ in_key_order table read) → FindsRows store old new table found
scan_finds store old new own table read (Ok rows) is some' s same commits writes o = record {
  is_open = (scan_leaves store old new own table (blocks_of (shape_in store) table) read s).is_open commits writes o;
  rows = same ∙ scanned_rows store old new own table read is some' s commits writes o;
}
scan_finds store old new own table read (Err memory) is some' s same commits writes o = record {
  is_open = (scan_leaves store old new own table (blocks_of (shape_in store) table) read s).is_open commits writes o;
  rows = tt;
}

-- Nor is anything said where there was no memory for the rows of all blocks.
pub scan_unlaid_finds : {E : Type 0} (store : StoreView) (old new : Session) (own : OwnTransaction) (table : ℕ) (read : List Row) (found : Result (List Row) E)
    → IsSession store old → own_of old ≡ Some own → Scans store old new own table (blocks_of (shape_in store) table) read
    → IsErr found → FindsRows store old new table found
scan_unlaid_finds store old new own table read (Ok rows) is some' s err = absurd (true≢false (sym err))
scan_unlaid_finds store old new own table read (Err memory) is some' s err = scan_finds store old new own table read (Err memory) is some' s tt
