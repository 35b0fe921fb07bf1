-- A worker's turn, read step by step.
use Rattle.std.specs.Prelude.{ℕ, ◌+◌, ◌<◌, ◌≤◌, ◌^◌, drop, length, ◌≡◌, true, List, [], ◌∷◌, ◌++◌}
use Rattle.std.specs.Prelude.{flat_map, Option, None, Some}
use Rattle.std.specs.List.{range_with_len}
use Rattle.cell_model.specs.declared.table.TableDecl.{TableDecl}
use Rattle.workload_spec.specs.declared.command.Command.{Command}
use Rattle.workload_spec.specs.declared.command.Command.TheVariants as command
use Rattle.output_read.specs.declared.kept.Told.{Told}
use Rattle.output_read.specs.Kept.{is_told, said_of}
use Rattle.workload_spec.specs.declared.reply.Who.TheVariants.{Worker}
use Rattle.workload_spec.specs.declared.reply.Said.{Said}
use Rattle.outcome_spec.specs.Forms.{Due, dues_to, turn_of}
use Rattle.output_read.specs.declared.reader.Reader.{Reader}
use Rattle.output_read.specs.declared.turns.NextSteps.{NextSteps}
use Rattle.output_read.specs.declared.workers.Shift.{Shift}
use Rattle.output_read.specs.Fronts.{said_first}
use Rattle.output_read.specs.Order.{AddsAll}
use Rattle.output_read.specs.Readers.{IsReading, Passes, PassesAll, lines_left, next_index, read_by}
use Rattle.output_read.specs.Turns.{next_steps}

-- The lines of a worker in a round were read so far: so many.
pub record IsShift (shift : Shift) (reader : Reader) : Type 0 where
  pub round : shift.round < 2 ^ 32
  pub worker : shift.worker < 2 ^ 32
  pub index : shift.index + 1 ≡ next_index shift.round (Worker shift.worker) (read_by reader)

-- what is due to a worker
abbrev pub work_dues : Shift → List Command → List Due
work_dues shift steps = dues_to shift.round (Worker shift.worker) steps

-- the turns of a worker in a round
abbrev pub turns_of : ℕ → List TableDecl → List Command
turns_of turns tables = flat_map (λ turn. turn_of tables) (range_with_len 1 turns)

-- What was due to a worker was read.
pub record ShiftGoes (old new : Reader) (shift after : Shift) (passed : List Due) : Type 0 where
  pub reading : IsReading new
  pub shift_on : IsShift after new
  pub round : after.round ≡ shift.round
  pub worker : after.worker ≡ shift.worker
  pub passes : Passes old new passed
  pub adds : AddsAll old new shift.round (Worker shift.worker)

-- there is a table, and not more than fit a number of 32 bits
abbrev pub IsFew : ℕ → Type 0
IsFew many = (0 < many) × (many < 2 ^ 32)

abbrev pub Never : Type 0
Never = ⊥

-- a step of a turn that has a line in any case
abbrev pub IsSpoken : Command → Type 0
IsSpoken command.Observe = Unit {0}
IsSpoken command.Prune = Unit {0}
IsSpoken (command.Compact table) = Unit {0}
IsSpoken _ = Never

-- the steps of a turn behind its first compaction
abbrev pub steps_behind : List TableDecl → List Command
steps_behind tables = drop 3 (turn_of tables)

-- The line of a step that has one was read.
pub record StepRead (old new : Reader) (shift after : Shift) (asked : Command) : Type 0 where
  pub reading : IsReading new
  pub shift_on : IsShift after new
  pub round : after.round ≡ shift.round
  pub worker : after.worker ≡ shift.worker
  pub passes : PassesAll old new (work_dues shift (asked ∷ []))
  pub adds : AddsAll old new shift.round (Worker shift.worker)

-- What was due to a worker in a round was read.
pub record WorkGoes (old new : Reader) (round worker : ℕ) (steps : List Command) : Type 0 where
  pub reading : IsReading new
  pub passes : Passes old new (dues_to round (Worker worker) steps)
  pub adds : AddsAll old new round (Worker worker)

-- The line of one of the steps that may be next was kept.
pub record StepKept (old new : Reader) (shift : Shift) (steps after : NextSteps) : Type 0 where
  pub told : Said
  pub says : Some told ≡ said_first old.tables.now shift.round (Worker shift.worker)
      (shift.index + 1) (lines_left old)
  pub on : next_steps old.tables.now steps told ≡ Some after
  pub kept : Told
  pub said_is : said_of kept ≡ told
  pub told_ok : is_told kept ≡ true
  pub items : new.replies.items ≡ old.replies.items
      ++ record {
        number = old.line;
        command = None;
        round = shift.round;
        who = Worker shift.worker;
        index = shift.index + 1;
        told = kept;
      } ∷ []
  pub line : new.line ≡ old.line + 1
  pub rest : lines_left new ≡ drop 1 (lines_left old)
  pub shorter : length new.rest.now + 1 ≤ length old.rest.now

-- One of the steps that may be next was read, or the next line is none of theirs.
abbrev pub StepGoes : Reader → Reader → Shift → NextSteps → Option NextSteps → Type 0
StepGoes old new shift steps (Some after) = StepKept old new shift steps after
StepGoes old new shift steps None =
    (new ≡ old) × ((told : Said) → Some told
    ≡ said_first old.tables.now shift.round (Worker shift.worker) (shift.index + 1)
    (lines_left old) → next_steps old.tables.now steps told ≡ None)
