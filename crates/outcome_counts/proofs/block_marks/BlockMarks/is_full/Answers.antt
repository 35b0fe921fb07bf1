use Rattle.outcome_counts.proofs.block_marks.BlockMarks.is_full.Goals as goal

pub returns : goal.returns
returns c = λ none. cc (c.blocks_at.ensures, c.slots_at.ensures, c.inserts_not_after.ensures none)
