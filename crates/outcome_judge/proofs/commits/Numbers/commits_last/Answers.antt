use Rattle.std.proofs.Common.{◌∙◌, ◌&&◌, not, Bool, ℕ, Some, ap, sym}
use Rattle.std.specs.List.{list_any}
use Rattle.output_read.specs.Kept.{entries_of}
use Rattle.outcome_judge.specs.Stale.{is_overtaken}
use Rattle.outcome_judge.proofs.commits.Numbers.commits_last.Goals as goal

pub returns-then-not-is_answered : goal.returns-then-not-is_answered
returns-then-not-is_answered c = λ none t opened snapshot.
    let es = entries_of c.args.replies.now in
    ap (λ (b : Bool). not (b && list_any (is_overtaken es (record { snapshot = t.snapshot; committed = Some c.args.number })) t.replies)) (c.if-not-is_answered.ensures none t opened)

pub returns : goal.returns
returns c = λ none t opened snapshot.
    let es = entries_of c.args.replies.now in
    ap not (c.are_overtaken.ensures t opened)
    ∙ ap (λ (n : ℕ). not (list_any (is_overtaken es (record { snapshot = n; committed = Some c.args.number })) t.replies)) (sym snapshot)
    ∙ ap (λ (b : Bool). not (b && list_any (is_overtaken es (record { snapshot = t.snapshot; committed = Some c.args.number })) t.replies)) (c.if-not-is_answered.ensures none t opened)
