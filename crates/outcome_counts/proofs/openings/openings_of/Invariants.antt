use Rattle.std.proofs.Common.{◌≡◌, ◌++◌, take, drop}
use Rattle.workload_spec.specs.declared.reply.Who.{Who}
use Rattle.output_read.specs.Kept.{entries_of}
use Rattle.outcome_counts.specs.Openings.{AreOpeningsUpTo, open_of, openings_from, openings_in}
use Rattle.outcome_counts.proofs.Held.{Standing}
use Rattle.outcome_counts.proofs.openings.openings_of.Given as goal

abbrev pub invariant-loop-place : goal.invariant-loop-place
invariant-loop-place l = record {
  standing : (who : Who) → Standing who (take l.place (entries_of l.replies)) (open_of l.opened who);
  each : l.openings.items ++ openings_from l.place (open_of l.opened) (drop l.place (entries_of l.replies)) ≡ openings_in (entries_of l.replies);
  openings : AreOpeningsUpTo (entries_of l.replies) l.place l.openings.items;
}
