use Rattle.std.proofs.Common.{◌≡◌, ◌*◌, ◌^◌, take}
use Rattle.bench_spec.specs.Counted.{sum_of}
use Rattle.bench_counts.specs.Small.{IsNear}
use Rattle.bench_counts.proofs.sums.sum_of.Given as goal

abbrev pub invariant-loop-row : goal.invariant-loop-row
invariant-loop-row l = record {
  summed : l.sum ≡ sum_of (take l.row-index l.rows);
  near : IsNear (l.row-index * 2 ^ 64) l.sum;
}
