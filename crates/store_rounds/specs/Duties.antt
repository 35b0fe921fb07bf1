-- What each of a row is to do in a round, and what comes of it.
use Rattle.std.specs.Prelude.{◌≡◌, ℕ, ◌+◌, ◌<◌, Bool, true, false, not, nat_lt, List, get_or}
use Rattle.std.specs.Prelude.{length, Option, None, Some, Result, Ok, Err}
use Rattle.std.specs.List.{flat_map, list_any}
use Rattle.std.specs.Global.{Vec as GlobalVec}
use Rattle.workload_spec.specs.Valid.{is_export}
use Rattle.workload_spec.specs.declared.command.Command.{Command}
use Rattle.store_rounds.specs.declared.agenda.Agenda.{Agenda}
use Rattle.store_rounds.specs.declared.crew.Crew.{Crew}
use Rattle.store_rounds.specs.declared.duty.Duty.{Duty}
use Rattle.store_rounds.specs.declared.duty.Task.{Task}
use Rattle.store_rounds.specs.declared.duty.Task.TheVariants as task
use Rattle.store_rounds.specs.declared.fault.RunFault.{RunFault}
use Rattle.store_rounds.specs.declared.fault.RunFault.TheVariants as fault
use Rattle.store_rounds.specs.Agendas.{AreAgendas}
use Rattle.workload_spec.specs.declared.script.Line.{Line}

-- ---- how one ended

-- it came to its end, and its lines are whole
abbrev pub is_whole_end : {T : Type 0} → Result T RunFault → Bool
is_whole_end (Ok done) = true
is_whole_end (Err failed) = false

-- it stopped at an export, where the outlet failed
abbrev pub is_cut_end : {T : Type 0} → Result T RunFault → Bool
is_cut_end (Ok done) = false
is_cut_end (Err fault.Out) = false
is_cut_end (Err fault.Export) = true
is_cut_end (Err fault.Memory) = false
is_cut_end (Err fault.Log) = false
is_cut_end (Err fault.GroupTooLong) = false

abbrev pub is_whole : Duty → Bool
is_whole duty = is_whole_end duty.ended

abbrev pub is_cut : Duty → Bool
is_cut duty = is_cut_end duty.ended

-- ---- what is to be done

-- there is something to do
abbrev pub has_work : Option Task → Bool
has_work None = false
has_work (Some (task.Commands commands)) = nat_lt 0 (length commands.items)
has_work (Some (task.Turns worker turns)) = nat_lt 0 turns

abbrev pub is_busy : Duty → Bool
is_busy duty = has_work duty.task

-- one of the commands is an export
abbrev pub has_export : Option Task → Bool
has_export None = false
has_export (Some (task.Commands commands)) = list_any is_export commands.items
has_export (Some (task.Turns worker turns)) = false

abbrev pub asks_export : Duty → Bool
asks_export duty = has_export duty.task

-- ---- the duties of a row

-- A duty of the round of this number that is not taken on yet: it has no lines.
pub record IsNew (round : ℕ) (to_do : Task) (duty : Duty) : Type 0 where
  pub asked : duty.task ≡ Some to_do
  pub round_is : duty.lines.round ≡ round
  pub no_lines : length duty.lines.text.items ≡ 0
  pub new_end : is_whole duty ≡ true

-- The duty of a session with this agenda.
pub record IsOfSession (round : ℕ) (agenda : Agenda) (duty : Duty) : Type 0 where
  pub commands : GlobalVec Command
  pub same : commands.items ≡ agenda.commands.items
  pub new : IsNew round (task.Commands commands) duty

-- The duties of sessions with these agendas.
pub record AreOfSessions (round : ℕ) (agendas : List Agenda) (duties : List Duty) : Type 0 where
  pub size : length duties ≡ length agendas
  pub each : (k : ℕ) (a : Agenda) (d : Duty) → k < length agendas
      → IsOfSession round (get_or agendas k a) (get_or duties k d)

-- Behind some duties stand those of so many workers of a crew.
pub record AreWithWorkers
    (crew : Crew) (round workers : ℕ) (before duties : List Duty)
    : Type 0 where
  pub size : length duties ≡ length before + workers
  pub same : (k : ℕ) (d : Duty) → k < length before → get_or duties k d ≡ get_or before k d
  pub each : (k : ℕ) (d : Duty) → k < workers
      → IsNew round (task.Turns (k + 1) crew.turns) (get_or duties (length before + k) d)

-- The duties of a crew in a round of these lines, its sessions' first.
pub record AreDuties (crew : Crew) (round : ℕ) (lines : List Line) (duties : List Duty) : Type 0 where
  pub agendas : List Agenda
  pub asked : AreAgendas crew.sessions lines agendas
  pub own : List Duty
  pub sessions : AreOfSessions round agendas own
  pub workers : AreWithWorkers crew round crew.workers own duties

-- ---- what came of them

-- the lines of one are not whole
abbrev pub is_lost : Duty → Bool
is_lost duty = not (is_whole duty)

-- the text of the lines of all, one behind the other
abbrev pub duties_text : List Duty → List ℕ
duties_text duties = flat_map (λ duty. duty.lines.text.items) duties

-- This is the text of the lines of all, each of whom came to its end.
pub record IsWholeText (duties : List Duty) (text : List ℕ) : Type 0 where
  pub none_lost : list_any is_lost duties ≡ false
  pub text_is : text ≡ duties_text duties
