-- The conditions of a sound reply, in three parts: by counts, by who else writes, and by what
-- transactions see; and up to which place replies meet one.
use Rattle.std.specs.Prelude.{◌≡◌, ℕ, ◌<◌, ◌≤◌, Bool, true, false, ◌&&◌, List, take}
use Rattle.std.specs.List.{list_all}
use Rattle.outcome_spec.specs.Answers.{reads_hold, writes_hold}
use Rattle.outcome_spec.specs.Conflicts.{conflicts_hold}
use Rattle.outcome_spec.specs.Entries.{Entry}
use Rattle.outcome_spec.specs.Numbers.{commit_numbers_hold, snapshot_numbers_hold}
use Rattle.outcome_spec.specs.Runs.{Run}
use Rattle.outcome_spec.specs.Stale.{reads_last}
use Rattle.outcome_spec.specs.Upkeep.{exports_hold, freezing_holds, full_holds, upkeep_holds}
use Rattle.outcome_judge.specs.Conflicts.{heights_hold, numbers_hold}
use Rattle.outcome_judge.specs.Stale.{reads_stand, tops_stand}
use Rattle.outcome_counts.specs.Asked.{asked_at}
use Rattle.output_read.specs.Kept.{entries_of}
use Rattle.output_read.specs.declared.kept.KeptReply.{KeptReply}

-- those that count what is shown about a reply
abbrev pub counts_hold : Run → Entry → Bool
counts_hold run entry =
    commit_numbers_hold run entry && snapshot_numbers_hold run entry && freezing_holds run entry
    && full_holds run entry && upkeep_holds run entry

-- those that ask what its transaction sees
abbrev pub views_hold : Run → Entry → Bool
views_hold run entry = reads_hold run entry && writes_hold run entry && exports_hold run entry

-- those that ask how high commits are, of a write's place and of a stale read
abbrev pub heights_stand : Run → Entry → Bool
heights_stand run entry = heights_hold run entry && tops_stand run entry

-- those that ask of the numbers of commits, of a write's place and of reads
abbrev pub numbers_stand : Run → Entry → Bool
numbers_stand run entry = numbers_hold run entry && reads_stand run entry

-- both of these
abbrev pub commits_hold : Run → Entry → Bool
commits_hold run entry = heights_stand run entry && numbers_stand run entry

-- those of the former for reads and writes
abbrev pub accesses_hold : Run → Entry → Bool
accesses_hold run entry = reads_hold run entry && writes_hold run entry

-- all of them, and those that ask who else writes what is written or read
abbrev pub conflicts_and_views_hold : Run → Entry → Bool
conflicts_and_views_hold run entry = (conflicts_hold run entry && reads_last run entry)
    && views_hold run entry

-- The replies in front of the place pass the test; the one at it does not, where it is in front of
-- a bound.
pub record EndsAt (test : Entry → Bool) (replies : List KeptReply) (until place : ℕ) : Type 0 where
  pub within : place ≤ until
  pub front : list_all test (take place (entries_of replies)) ≡ true
  pub fails : (none : KeptReply) → place < until → test (asked_at replies place none) ≡ false
