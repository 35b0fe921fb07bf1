-- Which commands a session may be asked, what it is told, and what is sent meanwhile.
use Rattle.std.specs.Prelude.{◌≡◌, ℕ, true, List, Option, Some, Result, Ok, Err}
use Rattle.std.specs.Io.KnownBytes.{Appends}
use Rattle.byte_ports.specs.Calls.{Rose}
use Rattle.byte_ports.specs.declared.ports.Failed.{Failed}
use Rattle.cell_model.specs.declared.table.TableDecl.{TableDecl}
use Rattle.export_spec.specs.Calls.{CallSends, CallsSend}
use Rattle.outcome_spec.specs.Forms.{is_upkeep}
use Rattle.run_spec.specs.Calls.{Call}
use Rattle.shared_store.specs.Store.{Answers, MakesAtMost, StoreView, reads_of, shape_in}
use Rattle.store_rounds.specs.Sessions.{IsFreeSession}
use Rattle.shared_store.specs.declared.session.Session.{Session}
use Rattle.store_export.specs.declared.exporting.ExportFault.{ExportFault}
use Rattle.store_export.specs.declared.exporting.ExportFault.TheVariants as fault
use Rattle.store_rounds.specs.Keeping.{Counts, most_upkeep}
use Rattle.workload_spec.specs.Valid.{is_command}
use Rattle.workload_spec.specs.declared.command.Command.{Command}
use Rattle.workload_spec.specs.declared.reply.Said.{Said}
use Rattle.workload_spec.specs.declared.reply.Said.TheVariants as said

-- The command names tables, blocks, columns and rows of these tables.
abbrev pub IsServed : List TableDecl → Command → Type 0
IsServed tables command = is_command tables command ≡ true

-- A command makes at most so many events: none makes more than a pruning.
abbrev pub most_events : ℕ
most_events = most_upkeep

-- What calls sent to an outlet, one behind the other.
pub record SentBy
    (tables : List TableDecl) (calls : List Call) (exported exported_now : Option (List ℕ))
    : Type 0 where
  pub bytes : List ℕ
  pub sent : Appends exported exported_now bytes
  pub by_calls : CallsSend tables calls bytes

-- The line of an answer; where the outlet failed, an export counts as answered `memory`.
abbrev pub told_in : Result Said Failed → Said
told_in (Ok told) = told
told_in (Err failed) = said.Memory

-- An outlet's count of faults rose in an export by a writer of its own just where the outlet's
-- fault is told.
abbrev pub CountsFaults : {T : Type 0} → Result T ExportFault → ℕ → ℕ → Type 0
CountsFaults (Ok summary) before now = now ≡ before
CountsFaults (Err (fault.Dirty key)) before now = now ≡ before
CountsFaults (Err (fault.Sink failed)) before now = Rose before now
CountsFaults (Err fault.Memory) before now = now ≡ before

-- The session carried out the command and was told this line, and an export sent what the line
-- says.
pub record Answered
    (store : StoreView) (old new : Session) (command : Command) (told : Said)
    (exported exported_now : Option (List ℕ))
    : Type 0 where
  pub session : IsFreeSession store new
  pub same : new.session ≡ old.session
  pub answers : Answers store old new command told
  pub counts : Counts told
  pub kept_up : is_upkeep command ≡ true → MakesAtMost most_events old new
  pub bytes : List ℕ
  pub sent : Appends exported exported_now bytes
  pub by_call : CallSends
      (shape_in store).tables
      (record { command = command; made = answers.made; told = Some told; reads = reads_of old })
      bytes
