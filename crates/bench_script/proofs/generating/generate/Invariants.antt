use Rattle.std.proofs.Common.{◌≡◌, ◌*◌}
use Rattle.std.specs.List.{flat_map, range_with_len}
use Rattle.bench_spec.specs.Generated.{draws_of_each, rounds_at, writers}
use Rattle.bench_script.proofs.generating.generate.Given as goal

abbrev pub invariant-loop-at : goal.invariant-loop-at
invariant-loop-at l = record {
  rounds : l.rounds.items ≡ flat_map (rounds_at l.seed) (range_with_len 1 l.at);
  made : l.draws.made ≡ draws_of_each * (writers * l.at);
  seed : l.draws.seed ≡ l.seed;
}
