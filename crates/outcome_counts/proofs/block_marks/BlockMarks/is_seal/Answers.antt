use Rattle.std.proofs.Common.{◌≡◌, ℕ, Bool, nat_le}
use Rattle.std.specs.Prelude.{◌&&◌, ◌==◌}
use Rattle.outcome_spec.specs.Entries.{before}
use Rattle.output_read.specs.Kept.{entries_of}
use Rattle.outcome_counts.specs.Asked.{asked_at}
use Rattle.outcome_counts.proofs.Peaks.{stamps-below}
use Rattle.outcome_counts.proofs.block_marks.BlockMarks.is_seal.Goals as goal

sealed : (result : Bool) (stamp seals lines above its_seals its_lines its_above : ℕ) (all : Bool)
    → result ≡ (nat_le 1 stamp && nat_le stamp seals && lines == 1 && nat_le above stamp) → seals ≡ its_seals → lines ≡ its_lines → above ≡ its_above → all ≡ nat_le its_above stamp
    → result ≡ (nat_le 1 stamp && nat_le stamp its_seals && its_lines == 1 && all)
sealed result stamp seals lines above its_seals its_lines its_above all is one two three four = cc

pub returns : goal.returns
returns c = λ none.
    let xs = before (entries_of c.args.replies.now) (asked_at c.args.replies.now c.args.at none) in
    sealed c.is_seal_by.result c.args.stamp.stamp c.seals_of-seals.result c.stamps_of-lines.result c.above_stamps_before-above.result _ _ _ _
    c.is_seal_by.ensures c.seals_of-seals.ensures c.stamps_of-lines.ensures (c.above_stamps_before-above.ensures none) (stamps-below c.args.stamp.of c.args.stamp.stamp xs)
