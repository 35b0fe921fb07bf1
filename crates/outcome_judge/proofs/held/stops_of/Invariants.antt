use Rattle.std.proofs.Common.{◌≡◌, drop, reverse}
use Rattle.workload_spec.specs.declared.reply.Who.{Who}
use Rattle.output_read.specs.Kept.{entries_of}
use Rattle.outcome_judge.specs.Held.{never, stop_of, stops_of}
use Rattle.outcome_judge.specs.Ranks.{kept_for}
use Rattle.outcome_judge.proofs.held.stops_of.Given as goal

abbrev pub invariant-loop-at : goal.invariant-loop-at
invariant-loop-at l = record {
  next : (who : Who) → kept_for l.next who never ≡ stop_of who (drop l.at (entries_of l.replies));
  stops : l.stops.items ≡ reverse (stops_of (drop l.at (entries_of l.replies)));
}
