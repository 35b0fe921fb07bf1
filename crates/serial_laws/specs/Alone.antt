-- Transactions one behind the other: each of an output's transactions as a run of the machine in
-- which no other is open.
use Rattle.std.specs.Prelude.{◌≡◌, ℕ, ◌+◌, ◌-◌, ◌&&◌, true, ◌==◌, List, [], ◌∷◌, ◌++◌, take, All}
use Rattle.std.specs.Prelude.{filter, filter_map, flat_map, length, is_none, Option, None, Some}
use Rattle.std.specs.Prelude.{option_map, option_and_then}
use Rattle.std.specs.List.{range_with_len}
use Rattle.std.specs.Option.{option_map_or}
use Rattle.isolation_spec.specs.Contents.{History}
use Rattle.isolation_spec.specs.Machine.{IsolationMachine}
use Rattle.isolation_spec.specs.Machine as machine
use Rattle.isolation_spec.specs.Order.{InOrder}
use Rattle.isolation_spec.specs.declared.command.Act.{Act}
use Rattle.isolation_spec.specs.declared.command.Act.TheVariants as act
use Rattle.isolation_spec.specs.declared.command.Answer.{Answer}
use Rattle.isolation_spec.specs.declared.command.Answer.TheVariants as answer
use Rattle.isolation_spec.specs.declared.command.Command as asked
use Rattle.workload_spec.specs.declared.command.Command.{Command}
use Rattle.workload_spec.specs.declared.command.Command.TheVariants as command
use Rattle.workload_spec.specs.declared.reply.Said.{Said}
use Rattle.workload_spec.specs.declared.reply.Said.TheVariants as said
use Rattle.workload_spec.specs.declared.reply.Who.{Who}
use Rattle.workload_spec.specs.declared.reply.Who.TheVariants.{Session, Worker}
use Rattle.workload_spec.specs.declared.script.Script.{Script}
use Rattle.outcome_spec.specs.Entries.{Entry, commit_in}
use Rattle.outcome_spec.specs.Explained.{Explained, run_in}
use Rattle.outcome_spec.specs.Runs.{Run, Span, transaction_of, ending_of, commit_line}
use Rattle.outcome_spec.specs.Stale.{is_checked}
use Rattle.serial_laws.specs.Serial.{Among}

-- What the machine is asked, and what it answers.
abbrev pub Step : Type 0
Step = asked.Command × Answer

-- The machine answers each command so, and ends as this one.
abbrev pub Runs : IsolationMachine → List Step → IsolationMachine → Type 0
Runs from [] to = from ≡ to
Runs from (step ∷ steps) to = ((machine.step from step.0).0 ≡ step.1)
    × Runs (machine.step from step.0).1 steps to

-- The machine behind so many commits of a history, where no transaction is open.
abbrev pub alone : History → ℕ → IsolationMachine
alone history number = record { history = take number history; open_transactions = [] }

-- what a get is told
abbrev pub got_alone : Act → Said → Option (Act × Answer)
got_alone asks (said.Found row) = Some (asks, answer.Found (Some row))
got_alone asks said.Absent = Some (asks, answer.Found None)
got_alone asks _ = None

-- what a scan or a range is told
abbrev pub rows_alone : Act → Said → Option (Act × Answer)
rows_alone asks (said.Scanned rows) = Some (asks, answer.Rows rows)
rows_alone asks _ = None

-- what a total is told
abbrev pub total_alone : Act → Said → Option (Act × Answer)
total_alone asks (said.Totalled count sum) = Some (asks, answer.Totalled count sum)
total_alone asks _ = None

-- a write that is accepted
abbrev pub write_alone : Act → Said → Option (Act × Answer)
write_alone asks said.Accepted = Some (asks, answer.Accepted)
write_alone asks _ = None

-- What the machine is asked at a reply, and answers: at a read that shows what it asks for, and at a
-- write that is accepted. A write that is refused leaves nothing, and is left out.
abbrev pub step_alone : Command → Said → Option (Act × Answer)
step_alone (command.Get table key) told = got_alone (act.Get table key) told
step_alone (command.Scan table) told = rows_alone (act.Scan table) told
step_alone (command.Range table low high) told = rows_alone (act.Range table low high) told
step_alone (command.Total table column low high) told = total_alone
    (act.Total table column low high) told
step_alone (command.Insert table row) told = write_alone (act.Insert table row) told
step_alone (command.Update table row) told = write_alone (act.Update table row) told
step_alone (command.Delete table key) told = write_alone (act.Delete table key) told
step_alone (command.Begin checked) told = None
step_alone command.Commit told = None
step_alone command.Abort told = None
step_alone command.Observe told = None
step_alone command.Prune told = None
step_alone (command.Compact table) told = None
step_alone (command.Seal table block) told = None
step_alone (command.Gather table block) told = None
step_alone (command.Export table) told = None

-- How a transaction ends: it commits, and else it is aborted, also where the output shows no end.
abbrev pub end_alone : Said → Act × Answer
end_alone (said.Committed number) = (act.Commit, answer.Committed number)
end_alone _ = (act.Abort, answer.Aborted)

-- the session's step
abbrev pub step_of : ℕ → Act × Answer → Step
step_of session its = (record { session = session; act = its.0 }, its.1)

abbrev pub number_of : Who → ℕ
number_of (Session number) = number
number_of (Worker number) = number

-- The reads of a transaction and its accepted writes, in order.
abbrev pub served_steps : ℕ → List Entry → List Step
served_steps session replies = filter_map
    (λ entry. option_map (step_of session) (step_alone entry.command entry.reply.said))
    replies

-- A transaction alone: it begins behind so many commits, reads and writes what the output says, and
-- ends.
abbrev pub alone_steps : Span → ℕ → List Step
alone_steps t number =
    step_of (number_of t.who) (act.Begin (is_checked t), answer.At number)
    ∷ served_steps (number_of t.who) t.replies
    ++ step_of (number_of t.who)
    (option_map_or (λ ending. end_alone ending.reply.said) (ending_of t) (act.Abort, answer.Aborted))
    ∷ []

-- the number with which a transaction committed, where it did and wrote
abbrev pub commit_number : Span → Option ℕ
commit_number t = option_and_then (λ ending. commit_in ending.reply.said) (ending_of t)

-- A checked transaction that committed as a number runs alone between the commit before and its own:
-- the machine answers what the output says, and its commit makes of the history before that number
-- the one with it.
abbrev pub ChecksRunAlone : Type 0
ChecksRunAlone = (script : Script) (text : List ℕ) (t : Span) (number : ℕ)
    → All InOrder script.begun
    → Explained script text → Among t (run_in script text).transactions → is_checked t ≡ true
    → commit_number t ≡ Some number
    → Runs (alone (run_in script text).history (number - 1)) (alone_steps t (number - 1))
    (alone (run_in script text).history number)

-- A transaction that left nothing, checked or not, runs alone behind the commits that it saw.
abbrev pub ReadersRunAlone : Type 0
ReadersRunAlone = (script : Script) (text : List ℕ) (t : Span)
    → Explained script text → Among t (run_in script text).transactions
    → commit_number t ≡ None
    → Runs (alone (run_in script text).history t.snapshot) (alone_steps t t.snapshot)
    (alone (run_in script text).history t.snapshot)

-- The transaction that committed as a number.
abbrev pub writer_steps : Run → ℕ → List Step
writer_steps run number = option_map_or (λ t. alone_steps t (number - 1))
    (option_and_then (transaction_of run) (commit_line run.entries number)) []

-- the transactions that left nothing and saw so many commits
abbrev pub reader_steps : Run → ℕ → List Step
reader_steps run number = flat_map (λ t. alone_steps t number)
    (filter (λ t. is_none (commit_number t) && t.snapshot == number) run.transactions)

-- All transactions, one behind the other: those that wrote in the order of their numbers, and behind
-- each those that left nothing and saw it last; in front those that left nothing and saw just what
-- the store began with.
abbrev pub serial_steps : Run → List Step
serial_steps run = reader_steps run (length run.first)
    ++ flat_map (λ number. writer_steps run number ++ reader_steps run number)
    (range_with_len (length run.first + 1) (length run.history - length run.first))

-- Where each transaction that wrote is checked, an explained output's transactions are one run of
-- the machine, one behind the other, from the commits that the store began with to all of them.
abbrev pub SerialRun : Type 0
SerialRun = (script : Script) (text : List ℕ) → All InOrder script.begun → Explained script text
    → ((t : Span) (number : ℕ) → Among t (run_in script text).transactions
    → commit_number t ≡ Some number → is_checked t ≡ true)
    → Runs (machine.opening_from script.begun) (serial_steps (run_in script text))
    (record { history = (run_in script text).history; open_transactions = [] })
