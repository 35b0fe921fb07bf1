-- What a crew did in a round.
use Rattle.std.specs.Prelude.{◌≡◌, ◌⊎◌, ℕ, ◌+◌, ◌*◌, ◌<◌, Bool, true, false, List, ◌++◌, All}
use Rattle.std.specs.Prelude.{Option, get_or, length}
use Rattle.std.specs.List.{list_any}
use Rattle.cell_model.specs.declared.table.TableDecl.{TableDecl}
use Rattle.event_spec.specs.Replay.{IsLawfulLog}
use Rattle.outcome_spec.specs.Forms.{commands_of}
use Rattle.workload_spec.specs.declared.command.Command.{Command}
use Rattle.workload_spec.specs.declared.reply.Who.{Who}
use Rattle.workload_spec.specs.declared.reply.Who.TheVariants.{Session as TheSession}
use Rattle.workload_spec.specs.declared.reply.Who.TheVariants.{Worker as TheWorker}
use Rattle.workload_spec.specs.declared.script.Line.{Line}
use Rattle.run_spec.specs.Calls.{Call}
use Rattle.run_spec.specs.Occurrences.{Logged}
use Rattle.run_laws.specs.Rounds.Lines.{round_text}
use Rattle.run_laws.specs.Rounds.Rounds.{made_in}
use Rattle.shared_store.specs.Store.{HasRoomFor, IsNamed, StoreView, shape_in}
use Rattle.shared_store.specs.declared.session.Session.{Session}
use Rattle.store_rounds.specs.Turns.{most_of_turn}
use Rattle.store_rounds.specs.declared.crew.Crew.{Crew}
use Rattle.store_rounds.specs.declared.duty.Duty.{Duty}
use Rattle.store_rounds.specs.declared.fault.RunFault.{RunFault}
use Rattle.store_rounds.specs.declared.fault.RunFault.TheVariants as fault
use Rattle.store_rounds.specs.Answered.{SentBy, most_events}
use Rattle.store_rounds.specs.Crews.{crew_calls, crew_shares, turns_in}
use Rattle.store_rounds.specs.Duties.{duties_text, is_lost}
use Rattle.store_rounds.specs.Row.{MetIn}
use Rattle.store_rounds.specs.Worked.{EndsAtExport, Worked, asked_in}

-- the sessions of a row have the numbers from 1 on
abbrev pub AreNumbered : List Session → Type 0
AreNumbered row = (k : ℕ) (d : Session) → k < length row → (get_or row k d).session ≡ k + 1

-- each of the row may make so many events
abbrev pub HaveRoomFor : ℕ → List Session → Type 0
HaveRoomFor events row = (k : ℕ) (d : Session) → k < length row → HasRoomFor events (get_or row k d)

-- The calls of each session are those of all its commands in a round of these lines.
abbrev pub AskedAll : ℕ → List Line → (ℕ → List Call) → Type 0
AskedAll sessions lines calls =
    (k : ℕ) → k < sessions → asked_in (calls (k + 1)) ≡ commands_of (k + 1) lines

-- The calls of a session are those of the first of its commands, up to an export that is told
-- `memory`.
pub record CallsStopAtExport (calls : List Call) (commands : List Command) : Type 0 where
  pub rest : List Command
  pub asked : commands ≡ asked_in calls ++ rest
  pub last : EndsAtExport calls

-- The calls of each session are those of all its commands in a round of these lines, but where they
-- stop at an export.
abbrev pub AskedUpToExport : ℕ → List Line → (ℕ → List Call) → Type 0
AskedUpToExport sessions lines calls = (k : ℕ) → k < sessions
    → (asked_in (calls (k + 1)) ≡ commands_of (k + 1) lines)
    ⊎ CallsStopAtExport (calls (k + 1)) (commands_of (k + 1) lines)

-- The calls of one of so many sessions end at an export.
pub record OneEndsAtExport (sessions : ℕ) (calls : ℕ → List Call) : Type 0 where
  pub place : ℕ
  pub within : place < sessions
  pub ends : EndsAtExport (calls (place + 1))

-- ---- sessions and workers

-- One of a row carried out its calls, and then met the others in this log.
pub record OneRan
    (store : StoreView) (met : List Logged) (worker : Bool) (most : ℕ) (old new : Session)
    (calls : List Call)
    : Type 0 where
  pub ended : Session
  pub worked : Worked store worker most old ended calls
  pub met_in : MetIn store met ended new

-- Each of a crew carried out its calls, and then all met in one log, which is a log of the store.
pub record RowRan
    (store : StoreView) (crew : Crew) (old new : List Session) (calls : Who → List Call)
    : Type 0 where
  pub met : List Logged
  pub lawful : IsLawfulLog (shape_in store) (made_in met)
  pub named : All (IsNamed (shape_in store).passes) met
  pub size : length new ≡ length old
  pub sessions : (k : ℕ) (d : Session) → k < crew.sessions → OneRan
      store
      met
      false
      (most_events * length (calls (TheSession (k + 1))))
      (get_or old k d)
      (get_or new k d)
      (calls (TheSession (k + 1)))
  pub workers : (k : ℕ) (d : Session) → k < crew.workers → OneRan
      store
      met
      true
      (most_of_turn * crew.turns)
      (get_or old (crew.sessions + k) d)
      (get_or new (crew.sessions + k) d)
      (calls (TheWorker (k + 1)))

-- The calls of each worker are those of its turns.
abbrev pub AllTurned : List TableDecl → Crew → (Who → List Call) → Type 0
AllTurned tables crew calls = (k : ℕ) → k < crew.workers
    → asked_in (calls (TheWorker (k + 1))) ≡ turns_in tables crew.turns

-- Each session carried out all its commands of a round and each worker made its turns, the outlet
-- grew by what they sent, and then all met. The text of their lines, where these are whole, is that
-- of their duties.
pub record RanRound
    (store : StoreView) (round : ℕ) (crew : Crew) (old new : List Session) (lines : List Line)
    (duties : List Duty) (exported exported_now : Option (List ℕ))
    : Type 0 where
  pub calls : Who → List Call
  pub ran : RowRan store crew old new calls
  pub asked : AskedAll crew.sessions lines (λ n. calls (TheSession n))
  pub turned : AllTurned (shape_in store).tables crew calls
  pub text_is : list_any is_lost duties ≡ false
      → duties_text duties ≡ round_text (shape_in store).tables round (crew_shares crew calls)
  pub sent : SentBy (shape_in store).tables (crew_calls crew calls) exported exported_now

-- The outlet failed at the export of one session, which stopped there. The others carried out all
-- their commands of a round, each worker made its turns, and then all met.
pub record RanToExport
    (store : StoreView) (crew : Crew) (old new : List Session) (lines : List Line)
    (exported exported_now : Option (List ℕ))
    : Type 0 where
  pub calls : Who → List Call
  pub ran : RowRan store crew old new calls
  pub asked : AskedUpToExport crew.sessions lines (λ n. calls (TheSession n))
  pub turned : AllTurned (shape_in store).tables crew calls
  pub sent : SentBy (shape_in store).tables (crew_calls crew calls) exported exported_now
  pub last : OneEndsAtExport crew.sessions (λ n. calls (TheSession n))

-- A round was not begun, for want of memory.
pub record NotBegun (old new : List Session) (exported exported_now : Option (List ℕ)) : Type 0 where
  pub same : new ≡ old
  pub none_sent : exported_now ≡ exported

-- How a round ends that stops the run before its commits and its lines are looked at.
abbrev pub RoundStops
    : StoreView → Crew → List Session → List Session → List Line → Option (List ℕ) → Option (List ℕ)
    → RunFault → Type 0
RoundStops store crew old new lines exported exported_now fault.Out = ⊥
RoundStops store crew old new lines exported exported_now fault.Export =
    RanToExport store crew old new lines exported exported_now
RoundStops store crew old new lines exported exported_now fault.Memory =
    NotBegun old new exported exported_now
RoundStops store crew old new lines exported exported_now fault.Log = ⊥
RoundStops store crew old new lines exported exported_now fault.GroupTooLong = ⊥
