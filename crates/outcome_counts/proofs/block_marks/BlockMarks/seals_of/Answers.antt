use Rattle.std.proofs.Common.{◌∙◌, ap, sym, length}
use Rattle.output_read.specs.Kept.{entries_of}
use Rattle.outcome_counts.specs.BlockMarks.{is_seal_of}
use Rattle.outcome_counts.proofs.About.{counted-all, seals-counted}
use Rattle.outcome_counts.proofs.block_marks.BlockMarks.seals_of.Goals as goal

pub returns : goal.returns
returns c =
    ap length c.at.ensures
    ∙ counted-all (is_seal_of c.args.block) c.args.replies.now _ (c.requires.seals c.args.block)
    ∙ sym (seals-counted c.args.block (entries_of c.args.replies.now))
