use Rattle.outcome_counts.proofs.block_marks.BlockMarks.is_idle.Goals as goal

pub returns : goal.returns
returns c = λ none. cc (c.seals_before-seals.ensures none, c.freezes_not_after.ensures none)
