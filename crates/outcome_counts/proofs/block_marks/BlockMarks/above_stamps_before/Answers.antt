use Rattle.std.proofs.Common.{◌∙◌, ap, sym, subst, List}
use Rattle.std.specs.List.Sorted.{IsNonDecreasingBy}
use Rattle.mark_index.specs.declared.marks.Peak.{Peak}
use Rattle.outcome_counts.specs.Asked.{peak_before}
use Rattle.outcome_counts.specs.BlockMarks.{above_stamp}
use Rattle.outcome_counts.proofs.Peaks.{peaks-before}
use Rattle.outcome_counts.proofs.block_marks.BlockMarks.above_stamps_before.Goals as goal

pub peak_before-requires : goal.peak_before-requires
peak_before-requires c = subst (λ (peaks : List Peak). IsNonDecreasingBy (λ peak. peak.place) peaks) (sym c.at.ensures) (c.requires.marked.peaks c.args.block).rise

pub returns : goal.returns
returns c = λ none.
    c.peak_before.ensures ∙ ap (λ (peaks : List Peak). peak_before peaks c.args.at c.args.stretch.now) c.at.ensures
    ∙ peaks-before (above_stamp c.args.block) c.args.replies.now c.args.at c.args.stretch.now c.requires.asked _ (c.requires.marked.peaks c.args.block) none
