use Rattle.output_read.specs.Kept.{entries_of}
use Rattle.mark_index.specs.Marks.{AreSums}
use Rattle.outcome_counts.specs.Weights.{pruned_by, moved_by, committed_by}
use Rattle.outcome_counts.proofs.prunes.Prunes.of.Given as goal

abbrev pub invariant-loop-place : goal.invariant-loop-place
invariant-loop-place l = record {
  pruned : AreSums pruned_by (entries_of l.replies) l.place l.pruned.items;
  moved : AreSums moved_by (entries_of l.replies) l.place l.moved.items;
  committed : AreSums (committed_by (entries_of l.replies)) (entries_of l.replies) l.place l.committed.items;
}
