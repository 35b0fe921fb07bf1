-- The snapshot-isolation machine along a store's log: which write sets were committed, and what a
-- session has open.
use Rattle.std.specs.Prelude.{◌≡◌, ℕ, List, [], ◌∷◌, ◌++◌, Option, None, Some, fold, length}
use Rattle.std.specs.Prelude.{option_and_then}
use Rattle.std.specs.Option.{option_map_or}
use Rattle.core_laws.specs.Events.Laws.{command_in, outcome_of}
use Rattle.core_laws.specs.Events.Named.{FollowsMachine}
use Rattle.event_spec.specs.Lawful.{reads_handed}
use Rattle.event_spec.specs.Parts.{Shape}
use Rattle.event_spec.specs.Replay.{IsLawfulLog}
use Rattle.event_spec.specs.Sound.{IsShape}
use Rattle.isolation_spec.specs.Contents.{History, State, WriteSet, laid_over, state_at}
use Rattle.isolation_spec.specs.declared.command.Command.{Command}
use Rattle.isolation_spec.specs.declared.read.Read.{Read}
use Rattle.isolation_spec.specs.Checked.{step_with}
use Rattle.isolation_spec.specs.Machine.{IsolationMachine, transaction_of}
use Rattle.isolation_spec.specs.Machine as machine
use Rattle.isolation_spec.specs.Reads.{ReadSet, first_stale, last_meeting, reads_in}
use Rattle.isolation_spec.specs.Store.{Outcome}
use Rattle.isolation_spec.specs.Store as store
use Rattle.run_spec.specs.Handed.{GoesOn}
use Rattle.run_spec.specs.Occurrences.{Logged, Occurrence, occurrences_in}
use Rattle.store_laws.specs.Logs.{made_in}
use Rattle.store_laws.specs.Own.{parts_after}

-- A command that the machine answers moves it on, a commit by the reads that it hands in; one that
-- the store refuses leaves it.
abbrev pub left_by : IsolationMachine → Option ReadSet → Command → Outcome → IsolationMachine
left_by before reads command (store.Answered said) = (step_with before reads command).1
left_by before reads command store.Freezing = before
left_by before reads command store.Full = before
left_by before reads command store.Memory = before

-- The machine behind one more event. An event that is no command leaves it.
abbrev pub moved_on : IsolationMachine → Occurrence → IsolationMachine
moved_on before occurrence =
    option_map_or
    (λ command. option_map_or
    (left_by before (reads_handed occurrence.event) command)
    (outcome_of command.act occurrence.reply)
    before)
    (command_in occurrence.event)
    before

-- The machine behind a log.
abbrev pub machine_after : Shape → List Logged → IsolationMachine
machine_after shape log = fold moved_on (machine.opening_from shape.first) (occurrences_in shape log)

-- The write sets of the commits behind a log, the first commit first: those that the core began
-- with, and those in the log.
abbrev pub commits_in : Shape → List Logged → History
commits_in shape log = (machine_after shape log).history

-- commits, and maybe more behind them
abbrev pub HasMore : History → History → Type 0
HasMore earlier later = (more : History) × (later ≡ earlier ++ more)

-- A session has a transaction open that sees these commits, and wrote this itself.
pub record HasOpenIn
    (session : ℕ) (behind : IsolationMachine) (commits : History) (own : WriteSet)
    : Type 0 where
  pub sees : HasMore commits behind.history
  pub opened : transaction_of session behind
      ≡ Some (record { session = session; snapshot = length commits; own = own })

-- the rows that it sees: those of the commits, with its own writes laid over them
abbrev pub rows_seen : History → WriteSet → State
rows_seen commits own = laid_over (state_at commits (length commits)) own

-- A commit stands behind all commits before it, at the number that it is told; one that wrote
-- nothing is told none.
abbrev pub AddsCommit : History → History → WriteSet → Option ℕ → Type 0
AddsCommit before later [] number = (later ≡ before) × (number ≡ None)
AddsCommit before later (first ∷ rest) number =
    (later ≡ before ++ (first ∷ rest) ∷ []) × (number ≡ Some (length later))

-- Of a transaction's reads the first into which later commits wrote than those that it sees, with
-- the number of the last of them: none where it wrote nothing, and where it is plain.
abbrev pub stale_since : History → History → WriteSet → Option ReadSet → Option (Read × ℕ)
stale_since later commits [] reads = None
stale_since later commits (first ∷ rest) reads = option_and_then
    (λ set. first_stale (last_meeting later (length commits)) (reads_in set))
    reads

-- ---- laws

-- What a lawful log leaves follows the machine behind it.
abbrev pub LogsFollowTheMachine : Type 0
LogsFollowTheMachine = (shape : Shape) (log : List Logged)
    → IsShape shape → IsLawfulLog shape (made_in log)
    → FollowsMachine shape (parts_after shape log) (machine_after shape log)

-- A log that goes on has the same commits, and maybe more.
abbrev pub CommitsGoOn : Type 0
CommitsGoOn = (shape : Shape) (earlier later : List Logged) → GoesOn earlier later
    → HasMore (commits_in shape earlier) (commits_in shape later)
