use Rattle.outcome_counts.proofs.block_marks.BlockMarks.is_freezing.Goals as goal

pub returns : goal.returns
returns c = λ none. cc (c.is_freezing_by.ensures, c.stamps_of-seals.ensures, c.stamps_not_after-seals_not_after.ensures none, c.freezes_before-freezes.ensures none)
