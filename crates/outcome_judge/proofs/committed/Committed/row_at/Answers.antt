use Rattle.std.proofs.Common.{◌∙◌, ap, None}
use Rattle.std.specs.Prelude.{unwrap_or}
use Rattle.mark_index.specs.Lists.{marks_at}
use Rattle.output_read.specs.Kept.{entries_of}
use Rattle.outcome_judge.specs.HistoryKept.{row_up_to, spot_cmp}
use Rattle.outcome_judge.specs.declared.keys.Spot.{Spot}
use Rattle.outcome_judge.proofs.Seen.{row-committed}
use Rattle.outcome_judge.proofs.committed.Committed.row_at.Goals as goal

pub row_at-requires : goal.row_at-requires
row_at-requires c = c.requires.commits.kept.left_rise c.spot_at-spot.result

pub returns : goal.returns
returns c =
    c.row_at.ensures
    ∙ ap (λ (spot : Spot). unwrap_or (row_up_to c.args.number (marks_at spot_cmp c.args.self.now.writes.left spot)) None) c.spot_at-spot.ensures
    ∙ row-committed c.args.openings.now (entries_of c.args.replies.now) c.requires.output c.args.self.now.writes c.requires.commits c.args.number c.args.of
