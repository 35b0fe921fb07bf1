use Rattle.std.proofs.Common.{◌≡◌, drop}
use Rattle.output_read.specs.Kept.{entries_of}
use Rattle.bench_spec.specs.Counted.{first_told, scanned_in}
use Rattle.bench_counts.proofs.counting.scanned.Given as goal

abbrev pub invariant-loop-reply : goal.invariant-loop-reply
invariant-loop-reply l = first_told scanned_in (entries_of l.replies) ≡ first_told scanned_in (entries_of (drop l.reply-index l.replies))
