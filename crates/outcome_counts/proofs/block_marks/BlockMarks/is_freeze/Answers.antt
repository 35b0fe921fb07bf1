use Rattle.outcome_counts.proofs.block_marks.BlockMarks.is_freeze.Goals as goal

pub returns : goal.returns
returns c = λ none. cc (c.is_freeze_by.ensures, c.slots_at.ensures, c.freezes_before-freezes.ensures none, c.seals_not_after-seals.ensures none)
