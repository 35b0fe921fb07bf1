use Rattle.std.proofs.Common.{◌≡◌, drop}
use Rattle.output_read.specs.Kept.{entries_of}
use Rattle.bench_spec.specs.Counted.{was_refused}
use Rattle.bench_counts.proofs.counting.was_refused.Given as goal

abbrev pub invariant-loop-reply : goal.invariant-loop-reply
invariant-loop-reply l = was_refused (entries_of l.replies) ≡ was_refused (entries_of (drop l.reply-index l.replies))
