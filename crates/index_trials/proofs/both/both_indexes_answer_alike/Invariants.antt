use Rattle.std.specs.Prelude.{⊤}
use Rattle.index_trials.proofs.both.both_indexes_answer_alike.Given as goal

abbrev pub invariant-loop-case : goal.invariant-loop-case
invariant-loop-case g l = ⊤

abbrev pub invariant-loop-low : goal.invariant-loop-low
invariant-loop-low g l = ⊤
