use Rattle.std.proofs.Common.{◌≡◌, ℕ, take}
use Rattle.std.specs.BTreeMap.{get}
use Rattle.std.specs.Ordering.{nat_cmp}
use Rattle.outcome_spec.specs.Runs.{commits_as}
use Rattle.output_read.specs.Kept.{entries_of}
use Rattle.outcome_judge.specs.Commits.{first_of}
use Rattle.outcome_judge.proofs.committed.CommitPlaces.of.Given as goal

abbrev pub invariant-loop-place : goal.invariant-loop-place
invariant-loop-place l = (number : ℕ) → get nat_cmp l.commits.places number ≡ first_of (commits_as number) (take l.place (entries_of l.replies))
