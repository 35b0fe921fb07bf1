-- What one of a row did in a round, and what a row did.
use Rattle.std.specs.Prelude.{◌≡◌, ◌≢◌, ℕ, ◌+◌, ◌*◌, ◌<◌, ◌≤◌, Bool, true, false, List, [], ◌++◌}
use Rattle.std.specs.Prelude.{All, Option, None, Some, OnOk, IfErr, Result, get_or, length}
use Rattle.std.specs.List.{list_any}
use Rattle.byte_ports.specs.Calls.{Rose}
use Rattle.cell_model.specs.declared.table.TableDecl.{TableDecl}
use Rattle.workload_spec.specs.Valid.{most_turns, most_workers}
use Rattle.workload_spec.specs.declared.command.Command.{Command}
use Rattle.workload_spec.specs.declared.reply.Who.{Who}
use Rattle.workload_spec.specs.declared.reply.Who.TheVariants.{Session as TheSession}
use Rattle.workload_spec.specs.declared.reply.Who.TheVariants.{Worker as TheWorker}
use Rattle.run_spec.specs.Calls.{Call}
use Rattle.run_laws.specs.Rounds.Lines.{share_text}
use Rattle.shared_store.specs.Store.{HasRoomFor, StoreView, shape_in}
use Rattle.store_rounds.specs.Sessions.{IsFreeSession}
use Rattle.shared_store.specs.declared.session.Session.{Session}
use Rattle.store_rounds.specs.Turns.{most_of_turn}
use Rattle.store_rounds.specs.Answered.{IsServed, SentBy, most_events}
use Rattle.store_rounds.specs.Crews.{calls_of, turns_in}
use Rattle.store_rounds.specs.Duties.{asks_export, is_cut, is_cut_end, is_whole}
use Rattle.store_rounds.specs.Worked.{EndsAtExport, Worked, asked_in, share_of}
use Rattle.store_rounds.specs.declared.duty.Duty.{Duty}
use Rattle.store_rounds.specs.declared.duty.Task.{Task}
use Rattle.store_rounds.specs.declared.duty.Task.TheVariants as task
use Rattle.store_rounds.specs.declared.fault.RunFault.{RunFault}
use Rattle.store_rounds.specs.declared.fault.RunFault.TheVariants as fault

-- ---- one

-- One carried out the first of these commands, all but where it stopped at an export at which the
-- outlet failed; where it came to its end, the text grew by their lines.
pub record CarriedOut
    {T : Type 0} (store : StoreView) (worker : Bool) (who : Who) (round most : ℕ)
    (old new : Session)
    (commands : List Command) (before after : List ℕ) (ended : Result T RunFault)
    (calls : List Call)
    : Type 0 where
  pub worked : Worked store worker most old new calls
  pub rest : List Command
  pub asked : commands ≡ asked_in calls ++ rest
  pub whole : is_cut_end ended ≡ false → rest ≡ []
  pub last : is_cut_end ended ≡ true → EndsAtExport calls
  pub text : OnOk ended
      (after ≡ before ++ share_text (shape_in store).tables round (share_of who calls))
  pub not_out : IfErr ended (λ failed. failed ≢ fault.Out)

-- A session did so, and the outlet grew by what its calls sent.
pub record SessionServed
    {T : Type 0} (store : StoreView) (round : ℕ) (old new : Session) (commands : List Command)
    (before after : List ℕ) (ended : Result T RunFault) (exported exported_now : Option (List ℕ))
    : Type 0 where
  pub calls : List Call
  pub did : CarriedOut store false (TheSession old.session) round (most_events * length calls)
      old new commands before after ended calls
  pub sent : SentBy (shape_in store).tables calls exported exported_now

-- ---- one of a row

-- What one is asked: a session its commands, a worker those of its turns.
abbrev pub asked_of_task : List TableDecl → Option Task → List Command
asked_of_task tables None = []
asked_of_task tables (Some (task.Commands commands)) = commands.items
asked_of_task tables (Some (task.Turns worker turns)) = turns_in tables turns

abbrev pub is_of_worker : Option Task → Bool
is_of_worker None = false
is_of_worker (Some (task.Commands commands)) = false
is_of_worker (Some (task.Turns worker turns)) = true

abbrev pub who_of : Option Task → Session → Who
who_of None session = TheSession session.session
who_of (Some (task.Commands commands)) session = TheSession session.session
who_of (Some (task.Turns worker turns)) session = TheWorker worker

-- so many events it makes at most
abbrev pub most_of_task : Option Task → List Call → ℕ
most_of_task None calls = 0
most_of_task (Some (task.Commands commands)) calls = most_events * length calls
most_of_task (Some (task.Turns worker turns)) calls = most_of_turn * turns

abbrev pub ServedBy : StoreView → Session → Session → Duty → Duty → List Call → Type 0
ServedBy store old new before after calls = CarriedOut
    store
    (is_of_worker before.task)
    (who_of before.task old)
    before.lines.round
    (most_of_task before.task calls)
    old
    new
    (asked_of_task (shape_in store).tables before.task)
    before.lines.text.items
    after.lines.text.items
    after.ended
    calls

-- One of a row did what it was to do, and the outlet grew by what its calls sent.
pub record Served
    (store : StoreView) (old new : Session) (before after : Duty)
    (exported exported_now : Option (List ℕ))
    : Type 0 where
  pub calls : List Call
  pub did : ServedBy store old new before after calls
  pub sent : SentBy (shape_in store).tables calls exported exported_now

-- a count of the outlet's faults: it rises where one stopped at an export
abbrev pub CountsCut : Bool → ℕ → ℕ → Type 0
CountsCut true before now = Rose before now
CountsCut false before now = now ≡ before

-- A session may carry out these commands.
pub record MayCarryOut (store : StoreView) (session : Session) (commands : List Command) : Type 0 where
  pub room : HasRoomFor (most_events * length commands) session
  pub served : All (IsServed (shape_in store).tables) commands

-- A worker may make so many turns.
pub record MayTurn (session : Session) (worker turns : ℕ) : Type 0 where
  pub room : HasRoomFor (most_of_turn * turns) session
  pub few : worker ≤ most_workers
  pub short : turns ≤ most_turns

abbrev pub MayDo : StoreView → Session → Option Task → Type 0
MayDo store session None = Unit {0}
MayDo store session (Some (task.Commands commands)) = MayCarryOut store session commands.items
MayDo store session (Some (task.Turns worker turns)) = MayTurn session worker turns

-- One of a row may do what it is to do, and nothing of it failed yet.
pub record MayServe (store : StoreView) (duty : Duty) (session : Session) : Type 0 where
  pub is_session : IsFreeSession store session
  pub may : MayDo store session duty.task
  pub unhurt : is_whole duty ≡ true

-- One did, and no outlet grew by it.
pub record ServedQuietly (store : StoreView) (old new : Session) (before after : Duty) : Type 0 where
  pub not_cut : is_cut after ≡ false
  pub served : (exported : Option (List ℕ)) → Served store old new before after exported exported

-- One may do what it is to do, which exports nothing.
pub record MayServeQuietly (store : StoreView) (duty : Duty) (session : Session) : Type 0 where
  pub may : MayServe store duty session
  pub quiet : asks_export duty ≡ false

-- ---- a row

pub record MayServeRow (store : StoreView) (duties : List Duty) (row : List Session) : Type 0 where
  pub size : length duties ≡ length row
  pub each : (k : ℕ) (d : Session) (e : Duty) → k < length row
      → MayServe store (get_or duties k e) (get_or row k d)

-- At most one of a row exports.
abbrev pub OneExportsAtMost : List Duty → Type 0
OneExportsAtMost duties = (j k : ℕ) (d : Duty) → j < length duties → k < length duties
    → asks_export (get_or duties j d) ≡ true
    → asks_export (get_or duties k d) ≡ true
    → j ≡ k

-- Each of a row did what it was to do, and the outlet grew by what their calls sent.
pub record RowServed
    (store : StoreView) (old new : List Session) (before after : List Duty)
    (exported exported_now : Option (List ℕ))
    : Type 0 where
  pub calls : ℕ → List Call
  pub size : length new ≡ length old
  pub duties : length after ≡ length before
  pub each : (k : ℕ) (d : Session) (e : Duty) → k < length old
      → ServedBy store (get_or old k d) (get_or new k d) (get_or before k e) (get_or after k e)
      (calls (k + 1))
  pub sent : SentBy (shape_in store).tables (calls_of (length old) calls) exported exported_now

-- Each did, and no outlet grew by it.
pub record RowServedQuietly
    (store : StoreView) (old new : List Session) (before after : List Duty)
    : Type 0 where
  pub none_cut : list_any is_cut after ≡ false
  pub served : (exported : Option (List ℕ)) → RowServed store old new before after exported exported
