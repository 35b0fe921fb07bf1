use Rattle.std.proofs.Common.{◌≡◌, ◌++◌}
use Rattle.std.specs.Vec.Iter.{into_iter_items}
use Rattle.run_spec.specs.Commits.{write_sets}
use Rattle.store_rounds.proofs.group.sets_of.Given as goal

abbrev pub invariant-loop-commit : goal.invariant-loop-commit
invariant-loop-commit l = record {
  sets : l.sets.items ≡ write_sets l.yielded;
  split : l.yielded ++ into_iter_items l.commit-iterator ≡ l.fn.commits.items;
}
