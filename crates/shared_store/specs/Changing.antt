-- What changing a row asks of a session's pass, and what it tells: where the row's block is imaged
-- it is thawed before the change, on the same parts.
use Rattle.std.specs.Prelude.{◌≡◌, ℕ, ◌+◌, ◌<◌, ◌^◌, true, false, List, [], ◌∷◌, ◌++◌, Option, None}
use Rattle.std.specs.Prelude.{IfSome, Some, if◌then◌else◌, option_map, length}
use Rattle.std.specs.BTreeMap.{insert_entry}
use Rattle.std.specs.List.{last_or, list_all, list_any}
use Rattle.block_spec.specs.Slots.{Row}
use Rattle.core_laws.specs.Events.Laws.{command_in}
use Rattle.core_laws.specs.Following.Laws.{command_of}
use Rattle.core_laws.specs.Words.Words.{thawed_part}
use Rattle.event_spec.specs.declared.event.Event.TheVariants as event
use Rattle.event_spec.specs.declared.own.OwnKey.{OwnKey}
use Rattle.event_spec.specs.declared.own.OwnTransaction.{OwnTransaction}
use Rattle.event_spec.specs.Effects.{CoreEvent}
use Rattle.event_spec.specs.Lawful.{FitsIn, HasTable, IsThawed, Stands, reads_handed}
use Rattle.event_spec.specs.Lawful.{takes_memory}
use Rattle.event_spec.specs.Parts.{CorePart, Name, Parts, Shape}
use Rattle.event_spec.specs.Replies.{CoreReply, reply_to}
use Rattle.event_spec.specs.Touched.{touched, touching}
use Rattle.hall_rule.specs.Hands.{Covers}
use Rattle.hall_rule.specs.declared.view.View.{View}
use Rattle.hall_steps.specs.Hall.{SameClaim, first_of}
use Rattle.isolation_spec.specs.Contents.{History, WriteSet, place_cmp, place_of}
use Rattle.isolation_spec.specs.declared.command.Act.TheVariants as act
use Rattle.isolation_spec.specs.declared.command.Command.{Command as Asked}
use Rattle.isolation_spec.specs.declared.place.Place.{Place}
use Rattle.isolation_spec.specs.Reads.{ReadSet}
use Rattle.store_laws.specs.OwnLaws.{HasOpened}
use Rattle.run_spec.specs.Asked.{events_of, thaws}
use Rattle.run_spec.specs.Calls.{is_cut_short, is_memory, is_refused, may_lack_memory}
use Rattle.run_spec.specs.Handed.{GoesOn, own_in}
use Rattle.run_spec.specs.Occurrences.{Logged, Occurrence, events_in, replies_in}
use Rattle.run_spec.specs.Opened.{own_behind, with_own}
use Rattle.run_spec.specs.Told.{last_told, line_of, refusal_of}
use Rattle.store_laws.specs.Laws.{IsOfSession}
use Rattle.store_laws.specs.Logs.{log_of}
use Rattle.store_laws.specs.Machines.{HasOpenIn, machine_after}
use Rattle.store_laws.specs.Stretches.{is_event}
use Rattle.workload_spec.specs.declared.command.Command.{Command}
use Rattle.shared_store.specs.Store.{EndsWithLast, HandsView, IsAt, IsWithin, SeatView}
use Rattle.shared_store.specs.Store.{StoreView, TookPartsOf, shape_in}
use Rattle.shared_store.specs.Writing.{IsWriteReply, is_written}

-- ---- what is asked

-- The event changes the row of a place, for a session that has this open: it touches what a get of
-- the row does, and fits where the row's block is not imaged.
pub record IsChangeOf
    (shape : Shape) (session : ℕ) (own : Option OwnTransaction) (place : Place) (write : CoreEvent)
    : Type 0 where
  pub handed : OwnKey
  pub mine : IsOfSession session write
  pub thawless : thawed_part shape write ≡ None
  pub table : HasTable shape place.table
  pub touches : (held : Name → Option CorePart) (name : Name)
      → touched shape held write name
      ≡ touched shape held (event.Get handed place.table place.key) name
  pub stands : (parts : Parts) → HasOpened shape parts session own → Stands shape write parts
  pub fits : (parts : Parts) → IsThawed shape place.table place.key parts → FitsIn shape write parts
  pub replies : (parts : Parts) → IsWriteReply (reply_to shape parts write)
  pub takes : takes_memory write ≡ true
  pub behind : (told : CoreReply) → own_behind own write told ≡ option_map (with_own place told) own

-- The pass may make two events more.
abbrev pub HasRoomForTwo : View CoreEvent → Type 0
HasRoomForTwo view = length view.mine + 2 < 2 ^ 56

-- A pass that holds no part may change the row.
pub record MayChange
    (store : StoreView) (seat : SeatView) (hands : HandsView) (place : Place) (write : CoreEvent)
    : Type 0 where
  pub session : ℕ
  pub own : Option OwnTransaction
  pub at' : IsAt store session seat hands own
  pub change : IsChangeOf (shape_in store) session own place write
  pub few : HasRoomForTwo seat.me.0

-- So may one that holds the parts of the change.
pub record MayChangeHeld
    (store : StoreView) (seat : SeatView) (hands : HandsView) (place : Place) (write : CoreEvent)
    : Type 0 where
  pub session : ℕ
  pub own : Option OwnTransaction
  pub within : IsWithin store session seat hands own
  pub change : IsChangeOf (shape_in store) session own place write
  pub covers : Covers (touching (shape_in store) write) (first_of hands)
  pub few : HasRoomForTwo seat.me.0

-- ---- what is told

-- What a change made are its events or a front of them, of which the last alone may have been
-- refused memory; and what it was told is the last one's reply.
pub record HasMade
    (shape : Shape) (place : Place) (write : CoreEvent) (made : List Occurrence) (told : CoreReply)
    : Type 0 where
  pub missed : List CoreEvent
  pub events : thaws shape place.table place.key made ++ write ∷ [] ≡ events_in made ++ missed
  pub refused : is_memory told ≡ true → is_cut_short made ≡ true
  pub granted : is_memory told ≡ false → (missed ≡ []) × (list_any is_refused made ≡ false)
  pub last : last_or None (replies_in made) ≡ Some told

-- What an update or a delete of a place's row asks of the machine.
abbrev pub change_asked : ℕ → Place → Option Row → Asked
change_asked session place (Some row) = command_of session (act.Update place.table row)
change_asked session place None = command_of session (act.Delete place.table place.key)

-- To the machine the event is this change of the row of a place, where a new row belongs.
pub record IsChangeTo (session : ℕ) (place : Place) (change : Option Row) (write : CoreEvent)
    : Type 0 where
  pub asks : command_in write ≡ Some (change_asked session place change)
  pub there : IfSome change (λ row. place_of place.table row ≡ place)
  pub unread : reads_handed write ≡ None

-- From one log of a session to another its transaction has the same open, with this change its own
-- where it was accepted.
abbrev pub WritesAlong
    : Shape → ℕ → List Logged → List Logged → Place → Option Row → CoreReply → Type 0
WritesAlong shape session old new place change told = (commits : History) (own : WriteSet)
    → HasOpenIn session (machine_after shape old) commits own
    → HasOpenIn session (machine_after shape new) commits
    (if is_written told then insert_entry place_cmp own place change else own)

-- A session's view behind a change: it has the change's events more.
pub record MakesChange
    (shape : Shape) (session : ℕ) (place : Place) (write : CoreEvent) (told : CoreReply)
    (old new : View CoreEvent)
    : Type 0 where
  pub made : List Occurrence
  pub has_made : HasMade shape place write made told
  pub replies : IsWriteReply told
  pub goes_on : GoesOn (log_of old.log) (log_of new.log)
  pub own : own_in shape session (log_of new.log) ≡ own_in shape session (log_of old.log) ++ made
  pub count : length new.mine ≡ length old.mine + length made
  pub ends : EndsWithLast made (log_of new.log)
  pub reads : SameClaim old new
  pub events : list_all is_event made ≡ true
  pub writes : (change : Option Row) → IsChangeTo session place change write
      → WritesAlong shape session (log_of old.log) (log_of new.log) place change told

-- The session made the change on parts that it held.
pub record ChangesHeld
    (store : StoreView) (session : ℕ) (old new : SeatView) (later : HandsView)
    (own : Option OwnTransaction) (place : Place) (write : CoreEvent) (told : CoreReply)
    : Type 0 where
  pub within : IsWithin store session new later (own_behind own write told)
  pub change : MakesChange (shape_in store) session place write told old.me.0 new.me.0
  pub taken : new.me.0.taken ≡ old.me.0.taken

abbrev pub ChangesAnyHeld
    : StoreView → SeatView → HandsView → SeatView → HandsView → Place → CoreEvent → CoreReply
    → Type 0
ChangesAnyHeld store old hands new later place write told =
    (session : ℕ) (own : Option OwnTransaction)
    → IsWithin store session old hands own → IsChangeOf (shape_in store) session own place write
    → Covers (touching (shape_in store) write) (first_of hands)
    → ChangesHeld store session old new later own place write told

-- The session made the change. It took the parts of the change's events alone and holds none.
pub record Changes
    (store : StoreView) (session : ℕ) (old new : SeatView) (later : HandsView)
    (own : Option OwnTransaction) (place : Place) (write : CoreEvent) (told : CoreReply)
    : Type 0 where
  pub stands : IsAt store session new later (own_behind own write told)
  pub change : MakesChange (shape_in store) session place write told old.me.0 new.me.0
  pub took : TookPartsOf
      (shape_in store)
      (thaws (shape_in store) place.table place.key change.made ++ write ∷ [])
      (log_of old.me.0.log)
      (log_of new.me.0.log)
      old.me.0.taken
      new.me.0.taken

abbrev pub ChangesAny
    : StoreView → SeatView → HandsView → SeatView → HandsView → Place → CoreEvent → CoreReply
    → Type 0
ChangesAny store old hands new later place write told =
    (session : ℕ) (own : Option OwnTransaction)
    → IsAt store session old hands own → IsChangeOf (shape_in store) session own place write
    → Changes store session old new later own place write told

-- ---- the command

-- The command of one who has this open is this change: its events, and its line, which is what the
-- last reply says.
pub record IsChangeBy
    (shape : Shape) (session : ℕ) (own : Option OwnTransaction) (place : Place) (write : CoreEvent)
    (command : Command)
    : Type 0 where
  pub granted : refusal_of command own ≡ None
  pub may : may_lack_memory command ≡ true
  pub events : (reads : Option ReadSet) (made : List Occurrence)
      → events_of shape own reads session command made
      ≡ thaws shape place.table place.key made ++ write ∷ []
  pub line : (replies : List CoreReply) → line_of own command replies
      ≡ last_told place.table 0 replies
