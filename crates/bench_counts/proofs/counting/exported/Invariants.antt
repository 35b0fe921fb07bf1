use Rattle.std.proofs.Common.{◌≡◌, drop}
use Rattle.output_read.specs.Kept.{entries_of}
use Rattle.bench_spec.specs.Counted.{exported_in, first_told}
use Rattle.bench_counts.proofs.counting.exported.Given as goal

abbrev pub invariant-loop-reply : goal.invariant-loop-reply
invariant-loop-reply l = first_told exported_in (entries_of l.replies) ≡ first_told exported_in (entries_of (drop l.reply-index l.replies))
