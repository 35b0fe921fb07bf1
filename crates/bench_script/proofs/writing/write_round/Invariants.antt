use Rattle.std.proofs.Common.{◌≡◌, ◌+◌, ◌*◌, ◌-◌}
use Rattle.std.specs.List.{flat_map, range_with_len}
use Rattle.bench_spec.specs.Generated.{draws_of_each, transaction, writers}
use Rattle.bench_script.proofs.writing.write_round.Given as goal

abbrev pub invariant-loop-at : goal.invariant-loop-at
invariant-loop-at l = record {
  lines : l.lines.items ≡ flat_map (transaction l.fn.draws.seed l.round) (range_with_len 1 l.at);
  made : l.draws.made ≡ draws_of_each * (writers * (l.round - 1) + l.at);
  seed : l.draws.seed ≡ l.fn.draws.seed;
}
