use Rattle.std.proofs.Common.{◌≡◌, ◌≤◌, take}
use Rattle.outcome_spec.specs.Runs.{commit_count}
use Rattle.output_read.specs.Kept.{entries_of}
use Rattle.bench_counts.proofs.counting.commit_count.Given as goal

abbrev pub invariant-loop-reply : goal.invariant-loop-reply
invariant-loop-reply l = record {
  counted : l.count ≡ commit_count (entries_of (take l.reply-index l.replies));
  few : l.count ≤ l.reply-index;
}
