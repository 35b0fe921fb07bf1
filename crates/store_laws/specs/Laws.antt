-- The laws of a store's log.
use Rattle.std.specs.Prelude.{◌≡◌, ◌⊎◌, ℕ, ◌≤◌, true, false, List, [], ◌∷◌, Option, None, Some}
use Rattle.std.specs.Prelude.{MatchBool, length}
use Rattle.atomic_table.specs.Table.{Me}
use Rattle.event_spec.specs.declared.own.OwnTransaction.{OwnTransaction}
use Rattle.event_spec.specs.declared.reply.Reply.TheVariants.{Memory}
use Rattle.event_spec.specs.Effects.{CoreEvent}
use Rattle.event_spec.specs.Lawful.{session_of}
use Rattle.event_spec.specs.Parts.{CorePart, Parts, Shape, desk_at}
use Rattle.event_spec.specs.Replay.{IsLawfulLog}
use Rattle.event_spec.specs.Replies.{CoreReply, reply_to}
use Rattle.event_spec.specs.Sound.{IsShape}
use Rattle.isolation_spec.specs.Reads.{ReadSet}
use Rattle.hall_rule.specs.EventLog.{LawfulFrom, replay}
use Rattle.hall_rule.specs.Views.{entry_of as hall_entry}
use Rattle.hall_rule.specs.declared.view.Entry.{Entry}
use Rattle.hall_rule.specs.declared.view.View.{View}
use Rattle.hall_steps.specs.Hall.{EndsWith, Joined, Knows, SameClaim, SeesMore}
use Rattle.run_spec.specs.Calls.{is_memory, may_lack_memory}
use Rattle.run_spec.specs.Handed.{Called, GoesOn, own_in}
use Rattle.run_spec.specs.Occurrences.{Logged}
use Rattle.run_spec.specs.Opened.{own_after, own_behind}
use Rattle.run_spec.specs.Asked.{events_of}
use Rattle.run_spec.specs.Told.{is_shared, line_of, refusal_of}
use Rattle.workload_spec.specs.declared.command.Command.{Command}
use Rattle.workload_spec.specs.declared.reply.Said.{Said}
use Rattle.workload_spec.specs.declared.reply.Said.TheVariants as said
use Rattle.store_laws.specs.Logs.{log_of, made_in, store_meaning}
use Rattle.store_laws.specs.Own.{KnowsOwn, MakesOne, occurrence_at, parts_after}

-- A lawful log of the hall is one of a run, and leaves the same parts.
abbrev pub LogsAreRuns : Type 0
LogsAreRuns = (shape : Shape) (log : List (Entry CoreEvent))
    → LawfulFrom (store_meaning shape) (store_meaning shape).start log
    → IsLawfulLog shape (made_in (log_of log))
    × (replay (store_meaning shape) log ≡ parts_after shape (log_of log))

-- From one log that a session has seen to a later one: it has no event of its own more, the same
-- open, and lends what it lent.
pub record SeesOn
    (shape : Shape) (session : ℕ) (old new : View CoreEvent) (own : Option OwnTransaction)
    : Type 0 where
  pub goes_on : GoesOn (log_of old.log) (log_of new.log)
  pub same : own_in shape session (log_of new.log) ≡ own_in shape session (log_of old.log)
  pub knows : KnowsOwn shape session new own
  pub reads : SameClaim old new

-- A session that sees more has the same of its own.
abbrev pub LooksGoOn : Type 0
LooksGoOn = (shape : Shape) (session id : ℕ) (old new : Me (Option CorePart) (View CoreEvent))
    (hand held : List (Option CorePart)) (own : Option OwnTransaction)
    → Knows (store_meaning shape) id old hand → Knows (store_meaning shape) id new held
    → SeesMore (store_meaning shape) old.0 new.0
    → KnowsOwn shape session old.0 own
    → SeesOn shape session old.0 new.0 own

-- So has one that was joined by a pass without hands and events.
abbrev pub JoinsGoOn : Type 0
JoinsGoOn = (shape : Shape) (session id other : ℕ) (old new : Me (Option CorePart) (View CoreEvent))
    (note : View CoreEvent) (hand held : List (Option CorePart)) (own : Option OwnTransaction)
    → Knows (store_meaning shape) id old hand → Knows (store_meaning shape) id new held
    → note.sessions ≡ [] → note.mine ≡ []
    → Joined (store_meaning shape) id other old.0 note new.0
    → KnowsOwn shape session old.0 own
    → SeesOn shape session old.0 new.0 own

-- The event is of the session, or of none.
abbrev pub IsOfSession : ℕ → CoreEvent → Type 0
IsOfSession session event = (session_of event ≡ Some session) ⊎ (session_of event ≡ None)

-- what the event replied, or that it found no memory
abbrev pub Replied : Shape → Parts → CoreEvent → CoreReply → Type 0
Replied shape parts event told =
    MatchBool (is_memory told) (told ≡ Memory) (told ≡ reply_to shape parts event)

-- A session that made an event has it among its own, and has open what the event told.
abbrev pub EventsGoOn : Type 0
EventsGoOn = (shape : Shape) (session id : ℕ) (old new : Me (Option CorePart) (View CoreEvent))
    (hand held : List (Option CorePart)) (before : List (Entry CoreEvent))
    (own : Option OwnTransaction)
    (event : CoreEvent) (told : CoreReply)
    → IsShape shape
    → Knows (store_meaning shape) id old hand → Knows (store_meaning shape) id new held
    → EndsWith (store_meaning shape) id old.0 before (hall_entry id old.0 (is_memory told) event)
    new.0
    → Replied shape (replay (store_meaning shape) before) event told
    → IsOfSession session event
    → KnowsOwn shape session old.0 own
    → MakesOne shape session (log_of old.0.log) (log_of new.0.log) event told
    × KnowsOwn shape session new.0 (own_behind own event told)

-- The newest stamp is at most the number of events.
abbrev pub StampsAreFew : Type 0
StampsAreFew = (shape : Shape) (log : List Logged) → IsShape shape → IsLawfulLog shape (made_in log)
    → (desk_at shape (parts_after shape log)).newest ≤ length log

-- What one event makes of a command that is this event alone: its line, or that there was no
-- memory.
abbrev pub TellsLine : Option OwnTransaction → Command → CoreReply → Said → Type 0
TellsLine own command told line = MatchBool
    (is_memory told)
    ((may_lack_memory command ≡ true) × (line ≡ said.Memory))
    (line_of own command (told ∷ []) ≡ Some line)

-- A command that is one event, which tells no image, is carried out by it.
abbrev pub SingleEventsAreCalls : Type 0
SingleEventsAreCalls = (shape : Shape) (session : ℕ) (old new : List Logged)
    (own : Option OwnTransaction) (reads : Option ReadSet) (command : Command) (event : CoreEvent)
    (told : CoreReply) (line : Said)
    → own ≡ own_after (own_in shape session old)
    → refusal_of command own ≡ None
    → (made : MakesOne shape session old new event told)
    → events_of shape own reads session command
    (occurrence_at session (parts_after shape made.before) event told ∷ [])
    ≡ event ∷ []
    → TellsLine own command told line
    → is_shared told ≡ false
    → Called shape false session old new (record {
      command = command;
      made = occurrence_at session (parts_after shape made.before) event told ∷ [];
      told = Some line;
      reads = reads;
    })
