-- What a round of a run adds to the history: what its sessions committed, sorted by number.
use Rattle.std.specs.Prelude.{◌≡◌, ℕ, ◌+◌, List, [], ◌∷◌, ◌++◌, length}
use Rattle.std.specs.List.{flat_map, range_with_len}
use Rattle.std.specs.List.Sorted.{IsNonDecreasingBy, IsPermutation}
use Rattle.isolation_spec.specs.Commits.{AreCommitsOf}
use Rattle.workload_spec.specs.declared.script.Script.{Script}
use Rattle.run_spec.specs.declared.commit.Commit.{Commit}
use Rattle.run_spec.specs.Commits.{write_sets}
use Rattle.run_spec.specs.Histories.{history_at}
use Rattle.run_spec.specs.Occurrences.{Logged}
use Rattle.run_spec.specs.Ran.{IsRunnable, Ran, RoundRun}
use Rattle.run_laws.specs.Commits.Shares.{commits_since}

-- Behind any of its rounds the history of a run is one of commits of its tables.
abbrev pub HistoriesAreOfTheTables : Type 0
HistoriesAreOfTheTables = (script : Script) (log : List Logged) (text : List ℕ) (count : ℕ)
    → IsRunnable script
    → (ran : Ran script log text)
    → AreCommitsOf script.tables (history_at script ran.rounds count)

-- These are the commits of the sessions in the last round of a run, in the order of their numbers.
pub record AreOfTheRound
    (script : Script) (whole : List RoundRun) (round : RoundRun) (sorted : List Commit)
    : Type 0 where
  pub same : IsPermutation
      (flat_map
      (commits_since (flat_map (λ round. round.made) whole) round.made)
      (range_with_len 1 script.sessions))
      sorted
  pub rises : IsNonDecreasingBy (λ commit. commit.number) sorted

-- The history behind a round: its write sets stand behind the history before, and are commits of the
-- tables.
pub record GoesOnBy
    (script : Script) (rounds : List RoundRun) (count : ℕ) (sorted : List Commit)
    : Type 0 where
  pub history : history_at script rounds (count + 1)
      ≡ history_at script rounds count ++ write_sets sorted
  pub tables : AreCommitsOf script.tables (write_sets sorted)

-- So the last round of a run goes on by what its sessions committed; workers commit nothing.
abbrev pub RoundsGoOnByTheirCommits : Type 0
RoundsGoOnByTheirCommits = (script : Script) (log : List Logged) (text : List ℕ)
    (whole : List RoundRun) (round : RoundRun) (sorted : List Commit)
    → IsRunnable script
    → (ran : Ran script log text)
    → ran.rounds ≡ whole ++ round ∷ []
    → AreOfTheRound script whole round sorted
    → GoesOnBy script ran.rounds (length whole) sorted
