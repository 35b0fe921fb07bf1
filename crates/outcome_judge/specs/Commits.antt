-- What the commits of an output wrote, each write made at its commit's number.
use Rattle.std.specs.Prelude.{◌≡◌, ℕ, ◌+◌, Bool, true, nat_le, zero, suc, List, [], ◌∷◌, ◌++◌}
use Rattle.std.specs.Prelude.{slice_get, Option, if◌then◌else◌}
use Rattle.std.specs.List.{list_all}
use Rattle.std.specs.Option.{option_map_or}
use Rattle.outcome_spec.specs.Entries.{Entry}
use Rattle.outcome_spec.specs.Runs.{commits_as}
use Rattle.outcome_counts.specs.Openings.{opening_of}
use Rattle.outcome_judge.specs.Timed.{TimedWrite, timed, timed_one, up_to}
use Rattle.outcome_judge.specs.HistoryKept.{AreKept}
use Rattle.outcome_judge.specs.Own.{own_writes, changes_of}
use Rattle.outcome_judge.specs.declared.writes.Writes.{Writes}

-- the places of the replies that pass a test, where the first reply has this place
abbrev pub places_of : (Entry → Bool) → ℕ → List Entry → List ℕ
places_of test place [] = []
places_of test place (entry ∷ entries) = if test entry
    then place ∷ places_of test (place + 1) entries else places_of test (place + 1) entries

abbrev pub first_of : (Entry → Bool) → List Entry → Option ℕ
first_of test entries = slice_get (places_of test 0 entries) 0

-- what a transaction that is opened at a place has written up to another, made at a number
abbrev pub made_of : List (Option ℕ) → List Entry → ℕ → ℕ → ℕ → List TimedWrite
made_of openings entries number place owner = timed number
    (changes_of (up_to place (own_writes owner 0 openings entries)))

-- the writes of a commit: those of the transaction of the first reply that shows its number
abbrev pub commit_writes : List (Option ℕ) → List Entry → ℕ → List TimedWrite
commit_writes openings entries number = option_map_or
    (λ place. option_map_or (made_of openings entries number place) (opening_of openings place) [])
    (first_of (commits_as number) entries) []

-- the writes of so many commits from a number on, in order
abbrev pub commits_from : List (Option ℕ) → List Entry → ℕ → ℕ → List TimedWrite
commits_from openings entries number zero = []
commits_from openings entries number (suc count) = commit_writes openings entries number
    ++ commits_from openings entries (number + 1) count

-- a write, made at another time
abbrev pub made_at : ℕ → TimedWrite → TimedWrite
made_at time write = timed_one time (write.place, write.row)

-- What is kept are these writes of one owner, laid over no rows.
pub record IsLaid (front : List TimedWrite) (writes : Writes) : Type 0 where
  pub written : ℕ → List TimedWrite
  pub kept : AreKept (λ owner. []) written writes
  pub own : written 0 ≡ front

-- none of the writes is made behind a time
abbrev pub AreLater : ℕ → List TimedWrite → Type 0
AreLater time front = list_all (λ write. nat_le write.time time) front ≡ true

-- what is kept are some writes, none of which is made behind a time
pub record CanLay (time : ℕ) (writes : Writes) : Type 0 where
  pub front : List TimedWrite
  pub laid : IsLaid front writes
  pub later : AreLater time front

-- What is kept are the writes of the first so many commits.
abbrev pub AreCommits : List (Option ℕ) → List Entry → ℕ → Writes → Type 0
AreCommits openings entries count writes = IsLaid (commits_from openings entries 1 count) writes
