use Rattle.std.proofs.Common.{◌≡◌, false}
use Rattle.std.specs.Prelude.{replicate}
use Rattle.output_read.proofs.rounds.none_within.Given as goal

abbrev pub invariant-loop : goal.invariant-loop
invariant-loop l = l.within.items ≡ replicate l.counter false
