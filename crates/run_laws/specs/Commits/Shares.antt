-- How the commits of a part of a log are put together from what each session committed there.
use Rattle.std.specs.Prelude.{◌≡◌, ℕ, ◌+◌, ◌≤◌, true, List, ◌++◌, All, drop, length, map}
use Rattle.std.specs.List.{flat_map, range_with_len}
use Rattle.std.specs.List.Sorted.{IsNonDecreasingBy, IsPermutation}
use Rattle.event_spec.specs.Parts.{Shape}
use Rattle.event_spec.specs.Replay.{IsLawfulLog}
use Rattle.event_spec.specs.Sound.{IsShape}
use Rattle.isolation_spec.specs.Contents.{History}
use Rattle.run_spec.specs.declared.commit.Commit.{Commit}
use Rattle.run_spec.specs.Commits.{commits_along, commits_of, history_behind, write_sets}
use Rattle.run_spec.specs.Occurrences.{Logged, Occurrence, occurrences_in, under}
use Rattle.run_laws.specs.Calls.Along.{are_named}

-- What a session committed in some events behind others: of its commits those that it had not made
-- before.
abbrev pub commits_since : List Occurrence → List Occurrence → ℕ → List Commit
commits_since front made session =
    drop (length (commits_of (under session front))) (commits_of (under session (front ++ made)))

-- the event stands under one of so many sessions, counted from 1
abbrev pub IsUnderOne : ℕ → Occurrence → Type 0
IsUnderOne sessions occurrence =
    (1 ≤ occurrence.session) × (occurrence.session ≤ sessions)

-- What all sessions committed in these events are the commits of the log there, in some order.
abbrev pub SharesAreTheCommits : Type 0
SharesAreTheCommits = (sessions : ℕ) (front made : List Occurrence)
    → All (IsUnderOne sessions) made
    → IsPermutation
    (flat_map (commits_since front made) (range_with_len 1 sessions))
    (commits_along front made)

-- The events are those of a lawful log, each under its own session, which ends with these.
pub record IsEndOf (shape : Shape) (log : List Logged) (front made : List Occurrence) : Type 0 where
  pub lawful : IsLawfulLog shape (map (λ entry. entry.made) log)
  pub named : are_named log ≡ true
  pub parted : occurrences_in shape log ≡ front ++ made

-- The numbers of the commits there go on behind the history in front, without a gap.
abbrev pub NumbersGoOn : Type 0
NumbersGoOn = (shape : Shape) (log : List Logged) (front made : List Occurrence)
    → IsShape shape → IsEndOf shape log front made
    → map (λ commit. commit.number) (commits_along front made)
    ≡ range_with_len
    (length (history_behind shape.first front) + 1)
    (length (commits_along front made))

-- Behind them the history has their write sets more.
abbrev pub HistoriesGoOn : Type 0
HistoriesGoOn = (first : History) (front made : List Occurrence)
    → history_behind first (front ++ made)
    ≡ history_behind first front ++ write_sets (commits_along front made)

-- So what all sessions committed there are, sorted by number, the commits of the log there.
abbrev pub SortedSharesAreTheCommits : Type 0
SortedSharesAreTheCommits = (shape : Shape) (log : List Logged) (front made : List Occurrence)
    (sessions : ℕ) (sorted : List Commit)
    → IsShape shape → IsEndOf shape log front made
    → All (IsUnderOne sessions) made
    → IsPermutation (flat_map (commits_since front made) (range_with_len 1 sessions)) sorted
    → IsNonDecreasingBy (λ commit. commit.number) sorted
    → sorted ≡ commits_along front made
