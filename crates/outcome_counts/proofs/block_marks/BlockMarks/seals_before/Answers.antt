use Rattle.std.proofs.Common.{◌∙◌, ap, sym, subst, ℕ, List}
use Rattle.std.specs.List.Sorted.{IsNonDecreasing}
use Rattle.outcome_spec.specs.Entries.{before}
use Rattle.output_read.specs.Kept.{entries_of}
use Rattle.outcome_counts.specs.Asked.{asked_at, count_before}
use Rattle.outcome_counts.specs.BlockMarks.{is_seal_of}
use Rattle.outcome_counts.proofs.About.{about-before, seals-counted}
use Rattle.outcome_counts.proofs.block_marks.BlockMarks.seals_before.Goals as goal

pub count_before-requires : goal.count_before-requires
count_before-requires c = subst IsNonDecreasing (sym c.at.ensures) (c.requires.marked.seals c.args.block).rise

pub returns : goal.returns
returns c = λ none.
    let replies = c.args.replies.now in
    c.count_before.ensures ∙ ap (λ (places : List ℕ). count_before places c.args.at c.args.stretch.now) c.at.ensures
    ∙ about-before (is_seal_of c.args.block) replies c.args.at c.args.stretch.now c.requires.asked _ (c.requires.marked.seals c.args.block) none
    ∙ sym (seals-counted c.args.block (before (entries_of replies) (asked_at replies c.args.at none)))
