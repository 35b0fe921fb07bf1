-- What a store and its sessions are, between two calls.
use Rattle.std.specs.Prelude.{◌≡◌, ◌≢◌, ℕ, ◌+◌, ◌<◌, ◌≤◌, ◌^◌, true, false, List, [], ◌∷◌, ◌++◌}
use Rattle.std.specs.Prelude.{All}
use Rattle.std.specs.Prelude.{Option, Some, IfSome, None, count_by, length, map, option_map}
use Rattle.std.specs.List.{last_or}
use Rattle.atomic_table.specs.declared.shared.Seat.{Seat}
use Rattle.engine_core.specs.Core.{CoreState, IsOpening}
use Rattle.event_spec.specs.declared.own.OwnTransaction.{OwnTransaction}
use Rattle.event_spec.specs.Effects.{CoreEvent}
use Rattle.event_spec.specs.Lawful.{Among}
use Rattle.event_spec.specs.Parts.{CorePart, Shape}
use Rattle.event_spec.specs.Replay.{IsLawfulLog}
use Rattle.event_spec.specs.Touched.{touching}
use Rattle.hall_rule.specs.EventLog.{has}
use Rattle.hall_rule.specs.Hands.{Holds}
use Rattle.hall_rule.specs.declared.view.View.{View}
use Rattle.hall_steps.specs.Hall.{HallView, IsPassAt, first_of}
use Rattle.isolation_spec.specs.Contents.{PlaceMap}
use Rattle.isolation_spec.specs.Reads.{ReadSet}
use Rattle.isolation_spec.specs.declared.read.Read.TheVariants as read
use Rattle.run_spec.specs.Asked.{events_of}
use Rattle.run_spec.specs.Handed.{Called, GoesOn, own_in}
use Rattle.run_spec.specs.Occurrences.{Logged, Occurrence}
use Rattle.run_spec.specs.Commits.{SessionWrites, writes_of}
use Rattle.run_spec.specs.Opened.{own_after}
use Rattle.store_laws.specs.Logs.{log_of, made_in, store_meaning}
use Rattle.store_laws.specs.Own.{KnowsOwn, entry_of, parts_after}
use Rattle.store_laws.specs.Stretches.{is_event, reads_block}
use Rattle.txn_desk.specs.declared.Snapshot.{Snapshot}
use Rattle.workload_spec.specs.declared.command.Command.{Command}
use Rattle.workload_spec.specs.declared.reply.Said.{Said}
use Rattle.workload_spec.specs.declared.reply.Said.TheVariants as said
use Rattle.run_spec.specs.Calls.{is_refused, reads_behind}
use Rattle.shared_store.specs.Commits.{without_commits, without_first, written_behind}
use Rattle.shared_store.specs.Reads.{ReadsFit, with_one}
use Rattle.shared_store.specs.declared.session.Session.{Session}

-- What contracts see of a store: its hall, with the core that it was built of.
abbrev pub StoreView : Type 0
StoreView = HallView CoreState Shape

abbrev pub shape_in : StoreView → Shape
shape_in store = store.core.shape

-- The hall was built of a core before its first event, for that core's passes.
pub record IsStore (store : StoreView) : Type 0 where
  pub opening : IsOpening store.core.shape store.core.parts
  pub passes : store.passes ≡ store.core.shape.passes
  pub shape : store.shape ≡ store.core.shape

-- ---- a pass

abbrev pub SeatView : Type 0
SeatView = Seat (Option CorePart) (View CoreEvent)

abbrev pub HandsView : Type 0
HandsView = List (List (Option CorePart))

-- A session's pass, whatever it holds, which is about to thaw a part: `thawing` is one more than
-- that part's number, or 0. The session has this open.
pub record IsWithinAt
    (thawing : ℕ) (store : StoreView) (session : ℕ) (seat : SeatView) (hands : HandsView)
    (own : Option OwnTransaction)
    : Type 0 where
  pub pass : IsPassAt (store_meaning (shape_in store)) thawing store.id seat hands
  pub knows : KnowsOwn (shape_in store) session seat.me.0 own

-- The same of a pass that thaws none.
abbrev pub IsWithin : StoreView → ℕ → SeatView → HandsView → Option OwnTransaction → Type 0
IsWithin = IsWithinAt 0

-- The same of a pass that holds no part.
pub record IsAt
    (store : StoreView) (session : ℕ) (seat : SeatView) (hands : HandsView)
    (own : Option OwnTransaction)
    : Type 0 where
  pub within : IsWithin store session seat hands own
  pub empty : (part : ℕ) → ¬ Holds (first_of hands) part

-- It is so of one session or another.
abbrev pub IsAnyWithin : StoreView → SeatView → HandsView → Type 0
IsAnyWithin store seat hands =
    (session : ℕ) × (own : Option OwnTransaction) × IsWithin store session seat hands own

abbrev pub IsAnyAt : StoreView → SeatView → HandsView → Type 0
IsAnyAt store seat hands =
    (session : ℕ) × (own : Option OwnTransaction) × IsAt store session seat hands own

-- ---- a session

-- what a session has open
abbrev pub opened_at : ℕ → PlaceMap ℕ → Snapshot → OwnTransaction
opened_at session writes snapshot =
    record { session = session; snapshot = snapshot; writes = writes }

abbrev pub own_of : Session → Option OwnTransaction
own_of s = option_map (opened_at s.session s.writes) s.snapshot

-- what that read, where it is checked
abbrev pub reads_of : Session → Option ReadSet
reads_of s = s.reads

-- what it wrote since its commits were taken last, where it keeps them
abbrev pub wrote_of : Session → Option SessionWrites
wrote_of s = s.kept

-- What a session notes of its transactions: what the open one read, and what it wrote itself.
pub record Notes : Type 0 where
  pub reads : Option ReadSet
  pub wrote : Option SessionWrites

abbrev pub notes_of : Session → Notes
notes_of s = record { reads = reads_of s; wrote = wrote_of s }

-- the session with a table read as a whole
abbrev pub swept : ℕ → Session → Session
swept table s = record s { reads = with_one (read.Table table) s.reads }

-- the session from which its commits were taken
abbrev pub handed_over : Session → Session
handed_over s = record s { kept = option_map without_commits s.kept }

-- the log as far as its pass saw it
abbrev pub seen : Session → List Logged
seen s = log_of s.pass.seat.me.0.log

-- what it wrote by its own events
abbrev pub own_writes : StoreView → Session → SessionWrites
own_writes store s = writes_of (own_in (shape_in store) s.session (seen s))

-- The session keeps that, but the first so many of its commits, which were taken.
pub record KeepsCommits (store : StoreView) (taken : ℕ) (s : Session) : Type 0 where
  pub within : taken ≤ length (own_writes store s).commits
  pub kept : wrote_of s ≡ Some (without_first taken (own_writes store s))

-- What it keeps of them, it keeps on.
abbrev pub KeepsOn : StoreView → Session → Session → Type 0
KeepsOn store old new = (taken : ℕ) → KeepsCommits store taken old → KeepsCommits store taken new

-- what its pass has seen and done
abbrev pub view_of : Session → View CoreEvent
view_of s = s.pass.seat.me.0

-- The session has lent nothing.
abbrev pub IsFree : Session → Type 0
IsFree s = (view_of s).claim ≡ 0

-- What a pass has lent, it has lent still: it has the same claim, on a block that was frozen with
-- the same stamp.
pub record KeepsLend (old new : View CoreEvent) : Type 0 where
  pub claim : new.claim ≡ old.claim
  pub claimed : new.claim ≢ 0 → new.claimed ≡ old.claimed

-- how many events its pass made, and which parts it ever took
abbrev pub events_made : Session → ℕ
events_made s = length s.pass.seat.me.0.mine

abbrev pub taken_by : Session → List ℕ
taken_by s = s.pass.seat.me.0.taken

-- the entry stands under one of the store's sessions
abbrev pub IsNamed : ℕ → Logged → Type 0
IsNamed passes entry = (1 ≤ entry.session) × (entry.session ≤ passes)

-- It is a session of this store: it has open what its own events told, and what it read is of the
-- store's tables. Its log is lawful, and each entry stands under a session of the store.
pub record IsSession (store : StoreView) (s : Session) : Type 0 where
  pub stands : IsAt store s.session s.pass.seat s.pass.hands (own_of s)
  pub own : own_of s ≡ own_after (own_in (shape_in store) s.session (seen s))
  pub lawful : IsLawfulLog (shape_in store) (made_in (seen s))
  pub named : All (IsNamed (shape_in store).passes) (seen s)
  pub fits : ReadsFit (shape_in store) (reads_of s)

-- What was noted is what it was, and the reads are of the store's tables.
abbrev pub KeepsNotes : StoreView → Session → Session → Type 0
KeepsNotes store old new = (notes_of new ≡ notes_of old) × ReadsFit (shape_in store) (reads_of new)

-- A session's pass may make so many events more: it makes fewer than 2 ^ 56.
abbrev pub HasRoomFor : ℕ → Session → Type 0
HasRoomFor count s = events_made s + count < 2 ^ 56

-- It made at most so many events since.
abbrev pub MakesAtMost : ℕ → Session → Session → Type 0
MakesAtMost count old new = events_made new ≤ events_made old + count

-- A store has at most so many blocks, and a table at most so many of them.
abbrev pub most_blocks : ℕ
most_blocks = 2 ^ 14

abbrev pub most_blocks_in_table : ℕ
most_blocks_in_table = 2 ^ 10

-- ---- a call

-- One of these events touches the part, as the parts tell that the log left as far as it was seen
-- at some moment of the call.
pub record IsTouched (shape : Shape) (events : List CoreEvent) (old new : List Logged) (part : ℕ)
    : Type 0 where
  pub event : CoreEvent
  pub is_one : Among event events
  pub log : List Logged
  pub saw : GoesOn old log
  pub left : GoesOn log new
  pub touches : touching shape event (map Some (parts_after shape log)) part ≡ true

-- Each part that was taken since is one that these events touch.
pub record TookPartsOf
    (shape : Shape) (events : List CoreEvent) (old new : List Logged) (taken later : List ℕ)
    : Type 0 where
  pub parts : List ℕ
  pub took : later ≡ taken ++ parts
  pub touched : (part : ℕ) → has part parts ≡ true → IsTouched shape events old new part

-- The log ends with the last of these, if there is one and it is an event.
abbrev pub EndsWithLast : List Occurrence → List Logged → Type 0
EndsWithLast made log = IfSome (last_or None made) (λ last. is_event last ≡ true
    → (before : List Logged) × (log ≡ before ++ entry_of last.session last.event last.reply ∷ []))

-- The log ends with the call's last event, if it ended with one: not with a lend, nor with one for
-- which there was no memory.
abbrev pub EndsCall : Said → List Occurrence → List Logged → Type 0
EndsCall told made log = IfSome (last_or None made) (λ last. is_event last ≡ true
    → (told ≡ said.Memory → reads_block last.event ≡ true → is_refused last ≡ true)
    → (before : List Logged) × (log ≡ before ++ entry_of last.session last.event last.reply ∷ []))

-- The session carried out the command and was told this line: these are the events that it made,
-- and the reads for which it lent blocks. It took no other parts than those that the command's
-- events touch, and has lent what it had lent. What its transaction read is what the call kept of
-- it, and behind the call what the line tells besides.
pub record Answers (store : StoreView) (old new : Session) (command : Command) (told : Said)
    : Type 0 where
  pub made : List Occurrence
  pub called : Called (shape_in store) false old.session (seen old) (seen new)
      (record { command = command; made = made; told = Some told; reads = reads_of old })
  pub keeps : reads_of new ≡ reads_behind (reads_of old) command told
  pub wrote : wrote_of new ≡ written_behind made (wrote_of old)
  pub count : events_made new ≡ events_made old + count_by is_event made
  pub ends : EndsCall told made (seen new)
  pub reads : KeepsLend (view_of old) (view_of new)
  pub took : TookPartsOf
      (shape_in store)
      (events_of (shape_in store) (own_of old) (reads_of old) old.session command made)
      (seen old)
      (seen new)
      (taken_by old)
      (taken_by new)
