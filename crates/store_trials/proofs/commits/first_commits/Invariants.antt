use Rattle.isolation_spec.specs.Commits.{AreCommitsOf}
use Rattle.store_trials.proofs.commits.first_commits.Given as goal

abbrev pub invariant-loop-key : goal.invariant-loop-key
invariant-loop-key l = AreCommitsOf l.tables l.commits.items
