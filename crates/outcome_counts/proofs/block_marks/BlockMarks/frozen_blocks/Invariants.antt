use Rattle.std.proofs.Common.{◌≡◌, ◌≤◌, ℕ, nat_lt}
use Rattle.std.specs.List.{count_by, range_with_len}
use Rattle.outcome_spec.specs.Entries.{not_after}
use Rattle.outcome_spec.specs.Upkeep.{freezes_in}
use Rattle.output_read.specs.Kept.{entries_of}
use Rattle.output_read.specs.declared.kept.KeptReply.{KeptReply}
use Rattle.outcome_counts.specs.Asked.{asked_at}
use Rattle.outcome_counts.proofs.block_marks.BlockMarks.frozen_blocks.Given as goal

abbrev pub invariant-loop-block : goal.invariant-loop-block
invariant-loop-block l = record {
  low : l.count ≤ l.block;
  counted : (none : KeptReply) → l.count
      ≡ count_by (λ (block : ℕ). nat_lt 0 (freezes_in l.table block (not_after (entries_of l.replies) (asked_at l.replies l.at none)))) (range_with_len 0 l.block);
}
