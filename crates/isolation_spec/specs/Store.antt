-- A store under the machine: it may refuse what the machine would accept, and then nothing changes.
use Rattle.std.specs.Prelude.{◌≡◌, ◌⊎◌, IsSome, Option}
use Rattle.isolation_spec.specs.Machine.{IsolationMachine, step, transaction_of}
use Rattle.isolation_spec.specs.Reads.{ReadSet}
use Rattle.isolation_spec.specs.Checked.{step_with}
use Rattle.isolation_spec.specs.declared.command.Command.{Command}
use Rattle.isolation_spec.specs.declared.command.Act.{Act}
use Rattle.isolation_spec.specs.declared.command.Act.TheVariants as act
use Rattle.isolation_spec.specs.declared.command.Answer.{Answer}
use Rattle.isolation_spec.specs.declared.command.Answer.TheVariants as answer

-- What a store says to a command: the machine's answer, or a refusal of its own: the row's block is
-- freezing, the table is full, or memory is wanting.
pub data Outcome : Type 0 where
  Answered : Answer → Outcome
  Freezing : Outcome
  Full : Outcome
  Memory : Outcome

-- the act changes a row that stands
abbrev pub IsChange : Act → Type 0
IsChange (act.Update table row) = Unit {0}
IsChange (act.Delete table key) = Unit {0}
IsChange (act.Begin checked) = ⊥
IsChange (act.Get table key) = ⊥
IsChange (act.Scan table) = ⊥
IsChange (act.Range table low high) = ⊥
IsChange (act.Total table column low high) = ⊥
IsChange (act.Insert table row) = ⊥
IsChange act.Commit = ⊥
IsChange act.Abort = ⊥

-- the act adds a row
abbrev pub IsInsert : Act → Type 0
IsInsert (act.Insert table row) = Unit {0}
IsInsert (act.Begin checked) = ⊥
IsInsert (act.Get table key) = ⊥
IsInsert (act.Scan table) = ⊥
IsInsert (act.Range table low high) = ⊥
IsInsert (act.Total table column low high) = ⊥
IsInsert (act.Update table row) = ⊥
IsInsert (act.Delete table key) = ⊥
IsInsert act.Commit = ⊥
IsInsert act.Abort = ⊥

-- the act asks for rows, or for what a column of them tells
abbrev pub IsRead : Act → Type 0
IsRead (act.Get table key) = Unit {0}
IsRead (act.Scan table) = Unit {0}
IsRead (act.Range table low high) = Unit {0}
IsRead (act.Total table column low high) = Unit {0}
IsRead (act.Begin checked) = ⊥
IsRead (act.Insert table row) = ⊥
IsRead (act.Update table row) = ⊥
IsRead (act.Delete table key) = ⊥
IsRead act.Commit = ⊥
IsRead act.Abort = ⊥

-- the machine accepts the command's write
abbrev pub IsAccepted : IsolationMachine → Command → Type 0
IsAccepted machine command = (step machine command).0 ≡ answer.Accepted

-- What a store over the machine may say to a command, and the machine after it, where a commit
-- hands in what its transaction read, none where that is plain: the machine's answer and step; or
-- `Freezing` to a change and `Full` to an insert that the machine accepts, or `Memory` to a read or
-- a write of an open transaction, and then nothing changes.
abbrev pub Allows : IsolationMachine → Option ReadSet → Command → Outcome → IsolationMachine
    → Type 0
Allows machine reads command (Answered said) after = step_with machine reads command ≡ (said, after)
Allows machine reads command Freezing after = IsChange command.act × IsAccepted machine command
    × (after ≡ machine)
Allows machine reads command Full after = IsInsert command.act × IsAccepted machine command
    × (after ≡ machine)
Allows machine reads command Memory after =
    (IsRead command.act ⊎ IsChange command.act ⊎ IsInsert command.act)
    × IsSome (transaction_of command.session machine)
    × (after ≡ machine)
