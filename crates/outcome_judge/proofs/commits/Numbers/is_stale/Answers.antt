use Rattle.std.proofs.Common.{◌∙◌, ◌&&◌, Bool, ap}
use Rattle.outcome_counts.specs.Asked.{asked_at}
use Rattle.outcome_judge.specs.Stale.{was_read}
use Rattle.outcome_judge.proofs.commits.Numbers.is_stale.Goals as goal

pub returns : goal.returns
returns c = λ none tables t opened snapshot.
    c.both_hold.ensures
    ∙ ap (λ (b : Bool). b && c.is_named_read-named.result) (c.was_read-read.ensures none t opened)
    ∙ ap (λ (b : Bool). was_read t (asked_at c.args.replies.now c.args.at none) c.args.what && b) (c.is_named_read-named.ensures none tables t snapshot)
