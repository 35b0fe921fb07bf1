use Rattle.std.proofs.Common.{◌≡◌, ◌∙◌, ℕ, ◌-◌, max, List, length}
use Rattle.mark_index.specs.Marks.{most_below, own_below}
use Rattle.mark_index.specs.declared.marks.Peak.{Peak}
use Rattle.outcome_counts.proofs.Later.{peaks-after}
use Rattle.outcome_counts.proofs.later_commits.LaterCommits.below_commits_after.Goals as goal

joined : (result most own from start last its_from its_start : ℕ) (read items : List Peak) → result ≡ max most own → most ≡ most_below from read → own ≡ own_below start last read
    → from ≡ its_from → start ≡ its_start → read ≡ items → result ≡ max (most_below its_from items) (own_below its_start last items)
joined result most own from start last its_from its_start read items a b d e f g = cc

pub returns : goal.returns
returns c = λ none.
    joined c.max.result c.most_below-most.result c.own_below-own.result c.saturating_sub.result c.saturating_sub-2.result (length c.args.replies.now - 1 - c.args.at) _ _ c.as_slice-peaks.result.now c.args.self.now.peaks.items
    c.max.ensures c.most_below-most.ensures c.own_below-own.ensures c.saturating_sub.ensures c.saturating_sub-2.ensures c.as_slice-peaks.ensures.value
    ∙ peaks-after c.args.replies.now c.args.at c.args.stretch.now c.requires.asked c.args.self.now.peaks.items c.requires.later none
