use Rattle.std.proofs.Common.{◌∙◌, ap, sym}
use Rattle.output_read.specs.Kept.{entries_of}
use Rattle.outcome_judge.specs.Conflicts.{is_first}
use Rattle.outcome_judge.specs.HistoryKept.{place_in}
use Rattle.outcome_judge.specs.Writers.{numbers_at, numbers_of}
use Rattle.outcome_judge.specs.declared.keys.RowKey.{RowKey}
use Rattle.outcome_judge.specs.declared.keys.Target.{Target}
use Rattle.outcome_judge.proofs.Meetings.{one-fails, one-passes}
use Rattle.outcome_judge.proofs.Targets.{row-numbers}
use Rattle.outcome_judge.proofs.commits.Numbers.are_first.Goals as goal

pub returns-then-not-is_first : goal.returns-then-not-is_first
returns-then-not-is_first c =
    let entries = entries_of c.args.replies.now in
    one-fails (λ (of : RowKey). is_first c.args.t (numbers_of entries (place_in of))) c.args.keys.now c.loop-of.of-index _ c.loop-of-test.true _ c.loop-of.invariant
    (ap (is_first c.args.t) (sym (row-numbers entries (place_in _)))
    ∙ ap (λ (of : Target). is_first c.args.t (numbers_at entries of)) (sym c.row_target.ensures)
    ∙ sym c.is_first.ensures ∙ c.if-not-is_first.true)

pub loop-of-preserved : goal.loop-of-preserved
loop-of-preserved c =
    let entries = entries_of c.args.replies.now in
    one-passes (λ (of : RowKey). is_first c.args.t (numbers_of entries (place_in of))) c.args.keys.now c.loop-of.of-index _ c.loop-of-test.true _ c.loop-of.invariant
    (ap (is_first c.args.t) (sym (row-numbers entries (place_in _)))
    ∙ ap (λ (of : Target). is_first c.args.t (numbers_at entries of)) (sym c.row_target.ensures)
    ∙ sym c.is_first.ensures ∙ c.if-not-is_first.false)
