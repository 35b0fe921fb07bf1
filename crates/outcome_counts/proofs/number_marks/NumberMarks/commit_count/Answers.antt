use Rattle.std.proofs.Common.{◌∙◌, ap, sym, length}
use Rattle.output_read.specs.Kept.{entries_of}
use Rattle.outcome_counts.specs.NumberMarks.{is_numbered}
use Rattle.outcome_counts.proofs.About.{counted-all}
use Rattle.outcome_counts.proofs.Shown.{numbered-counted}
use Rattle.outcome_counts.proofs.number_marks.NumberMarks.commit_count.Goals as goal

pub returns : goal.returns
returns c =
    ap length c.as_slice.ensures.value
    ∙ counted-all is_numbered c.args.replies.now _ c.requires.numbered
    ∙ sym (numbered-counted (entries_of c.args.replies.now))
