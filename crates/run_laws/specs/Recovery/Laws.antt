-- How what a crash leaves of a run's log goes on from round to round, and which numbers it keeps.
use Rattle.std.specs.Prelude.{◌⊎◌, ℕ, ◌+◌, ◌≤◌, List, ◌++◌, length, take, All, Option}
use Rattle.disk_ports.specs.Crashes.{LeavesOnly}
use Rattle.log_spec.specs.Reading.{Gives}
use Rattle.workload_spec.specs.declared.script.Script.{Script}
use Rattle.run_spec.specs.declared.commit.Commit.{Commit}
use Rattle.run_spec.specs.Commits.{write_sets}
use Rattle.run_spec.specs.Histories.{history_at}
use Rattle.run_spec.specs.Occurrences.{Logged}
use Rattle.run_spec.specs.Ran.{IsRunnable, Ran, RoundRun}
use Rattle.run_laws.specs.Commits.Numbers.{AreWithin}
use Rattle.run_laws.specs.Commits.Rounds.{GoesOnBy}
use Rattle.run_laws.specs.Recovery.Leaves.{LeavesRounds, Survives}

-- An opening gives at least as many commits as each number that is told in the rounds which the
-- file is to keep.
abbrev pub NumbersAreKept : Type 0
NumbersAreKept = (script : Script) (log : List Logged) (text : List ℕ) (least : ℕ)
    (bytes : List ℕ)
    → IsRunnable script
    → (ran : Ran script log text)
    → (left : LeavesRounds script ran.rounds least bytes)
    → All (AreWithin (length (history_at script ran.rounds left.count))) (take least ran.rounds)

-- What leaves some of the first rounds leaves some of all, and at least as many.
abbrev pub RoundsGoOn : Type 0
RoundsGoOn = (script : Script) (rounds more : List RoundRun) (least : ℕ) (bytes : List ℕ)
    → LeavesRounds script rounds least bytes
    → LeavesRounds script (rounds ++ more) least bytes

-- A crash in an append of a round's commits leaves the rounds before it, with it or without, and
-- one behind the append leaves it too.
pub record AppendLeaves
    (script : Script) (rounds : List RoundRun) (count : ℕ) (sorted : List Commit)
    : Type 0 where
  pub during : (bytes : List ℕ)
      → Gives script.tables bytes (history_at script rounds count)
      ⊎ Gives script.tables bytes (history_at script rounds count ++ write_sets sorted)
      → LeavesRounds script rounds count bytes
  pub behind : (bytes : List ℕ)
      → Gives script.tables bytes (history_at script rounds count ++ write_sets sorted)
      → LeavesRounds script rounds (count + 1) bytes

abbrev pub AppendsLeaveRounds : Type 0
AppendsLeaveRounds = (script : Script) (rounds : List RoundRun) (count : ℕ) (sorted : List Commit)
    → count + 1 ≤ length rounds
    → GoesOnBy script rounds count sorted
    → AppendLeaves script rounds count sorted

-- A run's log goes on surviving, where from then on a crash leaves some of the rounds alone.
abbrev pub SurvivalGoesOn : {D : Type 0} → (D → Option (List ℕ)) → (D → ℕ)
    → (D → ℕ → List ℕ → Type 0) → (D → List ℕ → Type 0) → Type 0
SurvivalGoesOn {D} told moment left_since may_leave = (old mid new : D) (script : Script)
    (rounds more : List RoundRun) (printed later : ℕ)
    → Survives told moment left_since may_leave old mid script rounds printed
    → LeavesOnly moment left_since mid new (LeavesRounds script (rounds ++ more) 0)
    → ((c : List ℕ) → may_leave new c → LeavesRounds script (rounds ++ more) later c)
    → Survives told moment left_since may_leave old new script (rounds ++ more) later
