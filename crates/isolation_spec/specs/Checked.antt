-- Checked transactions: the machine, and beside it what each open checked transaction read. A
-- commit of writes is refused where a later commit wrote into one of its reads; all else is the
-- machine's.
use Rattle.std.specs.Prelude.{ℕ, Bool, false, ◌==◌, not, List, [], ◌∷◌, ◌++◌, map, filter, find}
use Rattle.std.specs.Prelude.{Option, None, Some, option_map, option_and_then, if◌then◌else◌}
use Rattle.std.specs.Option.{option_map_or}
use Rattle.isolation_spec.specs.Contents.{WriteSet}
use Rattle.isolation_spec.specs.declared.command.Command.{Command}
use Rattle.isolation_spec.specs.declared.command.Act.{Act}
use Rattle.isolation_spec.specs.declared.command.Act.TheVariants as act
use Rattle.isolation_spec.specs.declared.command.Answer.{Answer}
use Rattle.isolation_spec.specs.declared.command.Answer.TheVariants as answer
use Rattle.isolation_spec.specs.declared.read.Read.{Read}
use Rattle.isolation_spec.specs.declared.read.Read.TheVariants as read
use Rattle.isolation_spec.specs.Machine as plain
use Rattle.isolation_spec.specs.Machine.{IsolationMachine, Transaction, transaction_of}
use Rattle.isolation_spec.specs.Reads.{ReadSet, no_reads, with_read, reads_in, first_stale}
use Rattle.isolation_spec.specs.Reads.{last_meeting}

-- Why the commit of a transaction with these writes is refused: of its reads the first that a later
-- commit met. Without writes, and without a read set, it is not.
abbrev pub stale_read : IsolationMachine → Transaction → WriteSet → Option ReadSet
    → Option (Read × ℕ)
stale_read machine t [] reads = None
stale_read machine t (first ∷ rest) reads = option_and_then
    (λ set. first_stale (last_meeting machine.history t.snapshot) (reads_in set))
    reads

-- why a session's act is refused where these are its open transaction's reads: only a commit is
abbrev pub stale_of : IsolationMachine → Option ReadSet → ℕ → Act → Option (Read × ℕ)
stale_of machine reads session act.Commit = option_and_then
    (λ t. stale_read machine t t.own reads)
    (transaction_of session machine)
stale_of machine reads session (act.Begin checked) = None
stale_of machine reads session (act.Get table key) = None
stale_of machine reads session (act.Scan table) = None
stale_of machine reads session (act.Range table low high) = None
stale_of machine reads session (act.Total table column low high) = None
stale_of machine reads session (act.Insert table row) = None
stale_of machine reads session (act.Update table row) = None
stale_of machine reads session (act.Delete table key) = None
stale_of machine reads session act.Abort = None

-- The machine's answer and step, where a commit hands in what its transaction read: it is refused
-- where a read is stale, and then nothing changes.
abbrev pub step_with : IsolationMachine → Option ReadSet → Command → Answer × IsolationMachine
step_with machine reads command = elim (stale_of machine reads command.session command.act) [
  | Some stale ↦ (answer.Stale stale.0 stale.1, machine)
  | None ↦ plain.step machine command
]

-- What an open checked transaction read.
pub record Reading : Type 0 where
  pub session : ℕ
  pub reads : ReadSet

-- The machine, and what the open checked transactions read.
pub record CheckedMachine : Type 0 where
  pub machine : IsolationMachine
  pub readings : List Reading

-- nothing was committed, and no transaction is open
abbrev pub opening : CheckedMachine
opening = record { machine = plain.opening; readings = [] }

-- what a session's open transaction read, where that is checked
abbrev pub reads_of : ℕ → CheckedMachine → Option ReadSet
reads_of session checked = option_map (λ (r : Reading). r.reads)
    (find (λ (r : Reading). r.session == session) checked.readings)

-- the act begins a checked transaction
abbrev pub begins_checked : Act → Bool
begins_checked (act.Begin checked) = checked
begins_checked (act.Get table key) = false
begins_checked (act.Scan table) = false
begins_checked (act.Range table low high) = false
begins_checked (act.Total table column low high) = false
begins_checked (act.Insert table row) = false
begins_checked (act.Update table row) = false
begins_checked (act.Delete table key) = false
begins_checked act.Commit = false
begins_checked act.Abort = false

-- what an act asks to read; a total reads its table
abbrev pub read_asked : Act → Option Read
read_asked (act.Get table key) = Some (read.Key table key)
read_asked (act.Scan table) = Some (read.Table table)
read_asked (act.Range table low high) = Some (read.Range table low high)
read_asked (act.Total table column low high) = Some (read.Table table)
read_asked (act.Begin checked) = None
read_asked (act.Insert table row) = None
read_asked (act.Update table row) = None
read_asked (act.Delete table key) = None
read_asked act.Commit = None
read_asked act.Abort = None

-- the session's read set with what it asked
abbrev pub entered : ℕ → Act → List Reading → List Reading
entered session asked readings = option_map_or
    (λ what. map (λ (r : Reading). if r.session == session
    then record r { reads = with_read what r.reads }
    else r) readings)
    (read_asked asked) readings

-- the read sets without the session's
abbrev pub dropped : ℕ → List Reading → List Reading
dropped session readings = filter (λ (r : Reading). not (r.session == session)) readings

-- The read sets behind a session's answer: a checked begin opens one, a read that is answered with
-- what it asked enters it, a commit that stands and an abort drop it.
abbrev pub readings_behind : ℕ → Act → Answer → List Reading → List Reading
readings_behind session asked (answer.At number) readings = if begins_checked asked
    then readings ++ record { session = session; reads = no_reads } ∷ []
    else readings
readings_behind session asked (answer.Found row) readings = entered session asked readings
readings_behind session asked (answer.Rows rows) readings = entered session asked readings
readings_behind session asked (answer.Totalled count sum) readings = entered session asked readings
readings_behind session asked (answer.Committed number) readings = dropped session readings
readings_behind session asked answer.Aborted readings = dropped session readings
readings_behind session asked answer.InTransaction readings = readings
readings_behind session asked answer.NoTransaction readings = readings
readings_behind session asked answer.Accepted readings = readings
readings_behind session asked (answer.ConflictSession rival) readings = readings
readings_behind session asked (answer.ConflictCommit number) readings = readings
readings_behind session asked answer.Exists readings = readings
readings_behind session asked answer.Missing readings = readings
readings_behind session asked (answer.Stale what number) readings = readings
readings_behind session asked answer.Memory readings = readings

-- what the machine says and is, with the read sets behind it
abbrev pub with_readings : CheckedMachine → Command → Answer × IsolationMachine
    → Answer × CheckedMachine
with_readings checked command said = (
  said.0,
  record {
    machine = said.1;
    readings = readings_behind command.session command.act said.0 checked.readings;
  },
)

-- The answer to a command, and the machine after it.
abbrev pub step : CheckedMachine → Command → Answer × CheckedMachine
step checked command = with_readings checked command
    (step_with checked.machine (reads_of command.session checked) command)

-- the answers to commands in order
abbrev pub answers_from : CheckedMachine → List Command → List Answer
answers_from checked [] = []
answers_from checked (command ∷ commands) = (step checked command).0 ∷ answers_from
    (step checked command).1 commands
