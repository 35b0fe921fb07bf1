use Rattle.std.proofs.Common.{◌∙◌, ap, sym, length}
use Rattle.output_read.specs.Kept.{entries_of}
use Rattle.outcome_counts.specs.NumberMarks.{is_commit_of}
use Rattle.outcome_counts.proofs.About.{counted-all}
use Rattle.outcome_counts.proofs.Shown.{commits-counted}
use Rattle.outcome_counts.proofs.number_marks.NumberMarks.lines_of.Goals as goal

pub returns : goal.returns
returns c =
    ap length c.at.ensures
    ∙ counted-all (is_commit_of c.args.number) c.args.replies.now _ (c.requires.commits c.args.number)
    ∙ sym (commits-counted c.args.number (entries_of c.args.replies.now))
