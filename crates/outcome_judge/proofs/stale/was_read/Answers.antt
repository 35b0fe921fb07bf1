use Rattle.std.proofs.Common.{◌∙◌, ◌&&◌, Bool, ap}
use Rattle.std.specs.List.{list_any}
use Rattle.outcome_counts.specs.Asked.{asked_at}
use Rattle.outcome_judge.specs.Stale.{answers}
use Rattle.outcome_judge.specs.declared.stale.Question.TheVariants as question
use Rattle.outcome_judge.proofs.stale.was_read.Goals as goal

pub returns : goal.returns
returns c = λ none t opened.
    let by = asked_at c.args.replies.now c.args.at none in
    c.both_hold-2.ensures
    ∙ ap (λ (b : Bool). b && c.is_answered-read.result) (c.both_hold.ensures ∙ ap (λ (b : Bool). b && c.is_answered-written.result) (c.is_answered-checked.ensures none t opened))
    ∙ ap (λ (b : Bool). (list_any (answers by question.Checked) t.replies && b) && c.is_answered-read.result) (c.is_answered-written.ensures none t opened)
    ∙ ap (λ (b : Bool). (list_any (answers by question.Checked) t.replies && list_any (answers by question.Written) t.replies) && b) (c.is_answered-read.ensures none t opened)
