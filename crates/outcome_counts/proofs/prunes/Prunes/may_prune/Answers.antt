use Rattle.std.proofs.Common.{◌≡◌, ◌∙◌, ap, sym, ℕ, ◌+◌, ◌*◌, Bool, List, nat_le}
use Rattle.mark_index.specs.declared.marks.Sum.{Sum}
use Rattle.outcome_spec.specs.Entries.{Entry, before, not_after}
use Rattle.outcome_spec.specs.Upkeep.{pruned_in, moved_in}
use Rattle.output_read.specs.Kept.{entries_of}
use Rattle.outcome_counts.specs.Asked.{asked_at}
use Rattle.outcome_counts.specs.Prunes.{sum_before, sum_not_after}
use Rattle.outcome_counts.specs.Weights.{pruned_by, moved_by, committed_by}
use Rattle.outcome_counts.proofs.Sums.{sums-before, sums-not-after, sum-shown}
use Rattle.outcome_counts.proofs.Totals.{committed-asked}
use Rattle.outcome_counts.proofs.prunes.Prunes.may_prune.Goals as goal

joined : (result : Bool) (count pruned committed moved its_pruned its_committed its_moved : ℕ) → result ≡ nat_le (count + pruned) (committed + 2 * moved)
    → pruned ≡ its_pruned → committed ≡ its_committed → moved ≡ its_moved → result ≡ nat_le (count + its_pruned) (its_committed + 2 * its_moved)
joined result count pruned committed moved its_pruned its_committed its_moved is one two three = cc

pub returns : goal.returns
returns c = λ tables none.
    let replies = c.args.replies.now in
    let es = entries_of replies in
    let entry = asked_at replies c.args.at none in
    let prunes = c.args.self.now in
    let stretch = c.args.stretch.now in
    let asked = c.requires.asked in
    let pruned =
    c.sum_before-pruned.ensures ∙ ap (λ (sums : List Sum). sum_before sums c.args.at stretch) c.as_slice.ensures.value
    ∙ sums-before pruned_by replies c.args.at stretch asked prunes.pruned.items c.requires.prunes.pruned none ∙ sym (sum-shown (λ (e : Entry). pruned_in e.reply.said) (before es entry)) in
    let committed =
    c.sum_not_after-committed.ensures ∙ ap (λ (sums : List Sum). sum_not_after sums c.args.at stretch) c.as_slice-2.ensures.value
    ∙ sums-not-after (committed_by es) replies c.args.at stretch asked prunes.committed.items c.requires.prunes.committed none ∙ sym (committed-asked replies c.args.at stretch asked c.requires.outside none) in
    let moved =
    c.sum_not_after-moved.ensures ∙ ap (λ (sums : List Sum). sum_not_after sums c.args.at stretch) c.as_slice-3.ensures.value
    ∙ sums-not-after moved_by replies c.args.at stretch asked prunes.moved.items c.requires.prunes.moved none ∙ sym (sum-shown (λ (e : Entry). moved_in e.reply.said) (not_after es entry)) in
    joined c.is_prune_by.result c.args.count c.sum_before-pruned.result c.sum_not_after-committed.result c.sum_not_after-moved.result _ _ _ c.is_prune_by.ensures pruned committed moved
