use Rattle.std.proofs.Common.{◌∙◌, ap, sym, length}
use Rattle.output_read.specs.Kept.{entries_of}
use Rattle.outcome_counts.specs.BlockMarks.{is_stamp_of}
use Rattle.outcome_counts.proofs.About.{counted-all, stamps-counted}
use Rattle.outcome_counts.proofs.block_marks.BlockMarks.stamps_of.Goals as goal

pub returns : goal.returns
returns c =
    ap length c.at.ensures
    ∙ counted-all (is_stamp_of c.args.stamp) c.args.replies.now _ (c.requires.stamps c.args.stamp)
    ∙ sym (stamps-counted c.args.stamp (entries_of c.args.replies.now))
