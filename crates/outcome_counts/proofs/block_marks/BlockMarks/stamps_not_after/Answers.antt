use Rattle.std.proofs.Common.{◌∙◌, ap, sym, subst, ℕ, List}
use Rattle.std.specs.List.Sorted.{IsNonDecreasing}
use Rattle.outcome_spec.specs.Entries.{not_after}
use Rattle.output_read.specs.Kept.{entries_of}
use Rattle.outcome_counts.specs.Asked.{asked_at, count_not_after}
use Rattle.outcome_counts.specs.BlockMarks.{is_stamp_of}
use Rattle.outcome_counts.proofs.About.{about-not-after, stamps-counted}
use Rattle.outcome_counts.proofs.block_marks.BlockMarks.stamps_not_after.Goals as goal

pub count_not_after-requires-clause-rise : goal.count_not_after-requires-clause-rise
count_not_after-requires-clause-rise c = subst IsNonDecreasing (sym c.at.ensures) (c.requires.marked.stamps c.args.stamp).rise

pub returns : goal.returns
returns c = λ none.
    let replies = c.args.replies.now in
    c.count_not_after.ensures ∙ ap (λ (places : List ℕ). count_not_after places c.args.at c.args.stretch.now) c.at.ensures
    ∙ about-not-after (is_stamp_of c.args.stamp) replies c.args.at c.args.stretch.now c.requires.asked _ (c.requires.marked.stamps c.args.stamp) none
    ∙ sym (stamps-counted c.args.stamp (not_after (entries_of replies) (asked_at replies c.args.at none)))
