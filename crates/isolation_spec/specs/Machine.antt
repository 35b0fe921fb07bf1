-- The snapshot-isolation machine: transactions that see the commits before them and their own
-- writes, where the first to write a key wins.
use Rattle.std.specs.Prelude.{ℕ, ◌+◌, ◌-◌, Bool, ◌&&◌, not, ◌==◌, nat_lt, List, [], ◌∷◌, ◌++◌, map}
use Rattle.std.specs.Prelude.{length, filter, find, slice_index_or, if◌then◌else◌, Option, None}
use Rattle.std.specs.Prelude.{Some, is_some, is_none, unwrap_or, option_map, ℤ}
use Rattle.std.specs.List.{last_or, range_with_len}
use Rattle.std.specs.Option.{option_or}
use Rattle.std.specs.BTreeMap.{insert_entry}
use Rattle.cell_model.specs.declared.cell.Cell.{Cell}
use Rattle.isolation_spec.specs.Contents.{place_cmp, at_place, State, WriteSet, History, laid_over}
use Rattle.isolation_spec.specs.Contents.{state_at, contents_of, contents_between, numbers_between}
use Rattle.isolation_spec.specs.Contents.{sum_of, place_at, place_of}
use Rattle.isolation_spec.specs.declared.place.Place.{Place}
use Rattle.isolation_spec.specs.declared.command.Command.{Command}
use Rattle.isolation_spec.specs.declared.command.Act.{Act}
use Rattle.isolation_spec.specs.declared.command.Act.TheVariants as act
use Rattle.isolation_spec.specs.declared.command.Answer.{Answer}
use Rattle.isolation_spec.specs.declared.command.Answer.TheVariants as answer

-- An open transaction: its session, its snapshot (how many commits it sees), and what it wrote.
pub record Transaction : Type 0 where
  pub session : ℕ
  pub snapshot : ℕ
  pub own : WriteSet

-- The committed write sets and the open transactions.
pub record IsolationMachine : Type 0 where
  pub history : History
  pub open_transactions : List Transaction

-- The machine that begins with these commits: no transaction is open.
abbrev pub opening_from : History → IsolationMachine
opening_from first = record { history = first; open_transactions = [] }

-- nothing was committed, and no transaction is open
abbrev pub opening : IsolationMachine
opening = opening_from []

-- the open transaction of a session
abbrev pub transaction_of : ℕ → IsolationMachine → Option Transaction
transaction_of session machine = find (λ t. t.session == session) machine.open_transactions

-- What a transaction sees: its own writes laid over the state at its snapshot.
abbrev pub seen_rows : IsolationMachine → Transaction → State
seen_rows machine t = laid_over (state_at machine.history t.snapshot) t.own

-- the write set has the place, with a row or gone
abbrev pub writes_place : Place → WriteSet → Bool
writes_place place writes = is_some (at_place writes place)

-- another session's open transaction that wrote the place
abbrev pub rival_of : IsolationMachine → ℕ → Place → Option Transaction
rival_of machine session place = find (λ t. not (t.session == session) && writes_place place t.own)
    machine.open_transactions

-- the write set of a commit number, counted from 1
abbrev pub write_set_at : History → ℕ → WriteSet
write_set_at history number = slice_index_or history (number - 1) []

-- The numbers of the commits after a snapshot whose write sets pass a test, in order.
abbrev pub later_commits : History → ℕ → (WriteSet → Bool) → List ℕ
later_commits history snapshot test =
    filter (λ number. nat_lt snapshot number && test (write_set_at history number))
    (range_with_len 1 (length history))

-- Those whose write sets have the place.
abbrev pub later_writers : History → ℕ → Place → List ℕ
later_writers history snapshot place = later_commits history snapshot (writes_place place)

-- A write conflict: another open transaction wrote the place, else a commit after the snapshot did,
-- the last of which is named.
abbrev pub conflict_of : IsolationMachine → Transaction → Place → Option Answer
conflict_of machine t place = option_or
    (option_map (λ rival. answer.ConflictSession rival.session) (rival_of machine t.session place))
    (option_map (λ number. answer.ConflictCommit number)
    (last_or None (later_writers machine.history t.snapshot place)))

-- Why a write is refused: a conflict goes first, then an insert finds the row there, or another
-- write finds none.
abbrev pub refusal_of_insert : IsolationMachine → Transaction → Place → Option Answer
refusal_of_insert machine t place = option_or (conflict_of machine t place)
    (if is_some (at_place (seen_rows machine t) place) then Some answer.Exists else None)

-- the same of an update or a delete
abbrev pub refusal_of_change : IsolationMachine → Transaction → Place → Option Answer
refusal_of_change machine t place = option_or (conflict_of machine t place)
    (if is_none (at_place (seen_rows machine t) place) then Some answer.Missing else None)

-- the machine without the transaction of a session
abbrev pub without : ℕ → IsolationMachine → IsolationMachine
without session machine = record machine
    { open_transactions = filter (λ t. not (t.session == session)) machine.open_transactions }

-- the transaction with a write entered into its own
abbrev pub entered : Place → Option (List Cell) → Transaction → Transaction
entered place change t = record t { own = insert_entry place_cmp t.own place change }

-- the machine with a write entered into a session's own
abbrev pub with_own : ℕ → Place → Option (List Cell) → IsolationMachine → IsolationMachine
with_own session place change machine = record machine {
  open_transactions =
      map (λ t. if t.session == session then entered place change t else t)
      machine.open_transactions;
}

-- a write that may be refused: if it is, nothing changes, and else the write enters the
-- transaction's own
abbrev pub write : IsolationMachine → Transaction → Place → Option (List Cell) → Option Answer
    → Answer × IsolationMachine
write machine t place change refusal = (
  unwrap_or refusal answer.Accepted,
  (if is_some refusal then machine else with_own t.session place change machine),
)

-- a commit appends what the transaction wrote to the history, and answers its number; where it
-- wrote nothing, no number
abbrev pub commit : IsolationMachine → Transaction → WriteSet → Answer × IsolationMachine
commit machine t [] = (answer.Committed None, without t.session machine)
commit machine t (first ∷ rest) = (
  answer.Committed (Some (length machine.history + 1)),
  record (without t.session machine)
      { history = machine.history ++ t.own ∷ [] },
)

-- the answer to a total: how many numbers there are, and their sum
abbrev pub told_total : List ℤ → Answer
told_total numbers = answer.Totalled (length numbers) (sum_of numbers)

-- what a session with an open transaction is answered, and the machine after it
abbrev pub step_within : IsolationMachine → Transaction → Act → Answer × IsolationMachine
step_within machine t (act.Begin checked) = (answer.InTransaction, machine)
step_within machine t (act.Get table key)
    = (answer.Found (at_place (seen_rows machine t) (place_at table key)), machine)
step_within machine t (act.Scan table)
    = (answer.Rows (contents_of table (seen_rows machine t)), machine)
step_within machine t (act.Range table low high)
    = (answer.Rows (contents_between table low high (seen_rows machine t)), machine)
step_within machine t (act.Total table column low high) = (
  told_total (numbers_between column low high (contents_of table (seen_rows machine t))),
  machine,
)
step_within machine t (act.Insert table row) =
    write machine t (place_of table row) (Some row)
    (refusal_of_insert machine t (place_of table row))
step_within machine t (act.Update table row) =
    write machine t (place_of table row) (Some row)
    (refusal_of_change machine t (place_of table row))
step_within machine t (act.Delete table key) =
    write machine t (place_at table key) None (refusal_of_change machine t (place_at table key))
step_within machine t act.Commit = commit machine t t.own
step_within machine t act.Abort = (answer.Aborted, without t.session machine)

-- what a session without one is answered: it begins one, which sees all commits, and else nothing
-- happens
abbrev pub step_without : IsolationMachine → ℕ → Act → Answer × IsolationMachine
step_without machine session (act.Begin checked) = (
  answer.At (length machine.history),
  record machine {
    open_transactions =
        machine.open_transactions ++ record {
          session = session;
          snapshot = length machine.history;
          own = [];
        } ∷ [];
  },
)
step_without machine session (act.Get table key) = (answer.NoTransaction, machine)
step_without machine session (act.Scan table) = (answer.NoTransaction, machine)
step_without machine session (act.Range table low high) = (answer.NoTransaction, machine)
step_without machine session (act.Total table column low high) = (answer.NoTransaction, machine)
step_without machine session (act.Insert table row) = (answer.NoTransaction, machine)
step_without machine session (act.Update table row) = (answer.NoTransaction, machine)
step_without machine session (act.Delete table key) = (answer.NoTransaction, machine)
step_without machine session act.Commit = (answer.NoTransaction, machine)
step_without machine session act.Abort = (answer.NoTransaction, machine)

-- the step of a session with this open transaction, or with none
abbrev pub step_of : IsolationMachine → Command → Option Transaction → Answer × IsolationMachine
step_of machine command None = step_without machine command.session command.act
step_of machine command (Some t) = step_within machine t command.act

-- The answer to a command, and the machine after it.
abbrev pub step : IsolationMachine → Command → Answer × IsolationMachine
step machine command = step_of machine command (transaction_of command.session machine)

-- the answers to commands in order
abbrev pub answers_from : IsolationMachine → List Command → List Answer
answers_from machine [] = []
answers_from machine (command ∷ commands) = (step machine command).0 ∷ answers_from
    (step machine command).1 commands
