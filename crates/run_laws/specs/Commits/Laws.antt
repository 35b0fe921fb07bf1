-- The commits of a log, and the history of the snapshot-isolation machine behind it.
use Rattle.std.specs.Prelude.{◌≡◌, ◌+◌, true, List, [], ◌∷◌, length, map}
use Rattle.std.specs.List.{range_with_len}
use Rattle.core_laws.specs.Events.Laws.{IsStep, command_in}
use Rattle.event_spec.specs.Lawful.{reads_handed}
use Rattle.event_spec.specs.Parts.{Parts, Shape}
use Rattle.event_spec.specs.Replay.{IsLawfulLog, after, opening, reply_after}
use Rattle.event_spec.specs.Sound.{IsShape}
use Rattle.isolation_spec.specs.Machine.{IsolationMachine}
use Rattle.isolation_spec.specs.Machine as machine
use Rattle.run_spec.specs.Commits.{commits_along, history_behind}
use Rattle.run_spec.specs.Occurrences.{Logged, occurrences_in}
use Rattle.run_laws.specs.Calls.Along.{are_named}

-- The machine goes with each event of a log, and ends as this one.
abbrev pub LeadsTo : Shape → Parts → IsolationMachine → List Logged → IsolationMachine → Type 0
LeadsTo shape parts before [] last = last ≡ before
LeadsTo shape parts before (entry ∷ log) last =
    (next : IsolationMachine)
    × IsStep (command_in entry.made.event) (reads_handed entry.made.event) before
    (reply_after shape parts entry.made) next
    × LeadsTo shape (after shape parts entry.made) next log last

-- So it goes with every lawful log.
abbrev pub MachinesLead : Type 0
MachinesLead = (shape : Shape) (log : List Logged) → IsShape shape
    → IsLawfulLog shape (map (λ entry. entry.made) log)
    → (last : IsolationMachine)
    × LeadsTo shape (opening shape) (machine.opening_from shape.first) log last

-- A machine's history is that behind a log, and the log's commits have the numbers behind those of
-- the commits that the core began with, in order and without a gap.
pub record IsHistoryOf (shape : Shape) (log : List Logged) (last : IsolationMachine) : Type 0 where
  pub history : last.history ≡ history_behind shape.first (occurrences_in shape log)
  pub numbers : map (λ commit. commit.number) (commits_along [] (occurrences_in shape log))
      ≡ range_with_len
      (length shape.first + 1)
      (length (commits_along [] (occurrences_in shape log)))

-- The machine that goes with a log whose events stand under their sessions has the log's history.
abbrev pub HistoriesAreTheMachines : Type 0
HistoriesAreTheMachines = (shape : Shape) (log : List Logged) (last : IsolationMachine)
    → are_named log ≡ true
    → LeadsTo shape (opening shape) (machine.opening_from shape.first) log last
    → IsHistoryOf shape log last
