use Rattle.std.proofs.Common.{◌∙◌, ap, sym, List, ℕ}
use Rattle.output_read.specs.Kept.{entries_of}
use Rattle.outcome_judge.specs.HistoryKept.{place_in}
use Rattle.outcome_judge.specs.Writers.{is_number_in, numbers_at, numbers_of}
use Rattle.outcome_judge.specs.declared.keys.RowKey.{RowKey}
use Rattle.outcome_judge.specs.declared.keys.Target.{Target}
use Rattle.outcome_judge.proofs.Meetings.{some-fails, some-passes}
use Rattle.outcome_judge.proofs.Targets.{row-numbers}
use Rattle.outcome_judge.proofs.commits.Numbers.wrote_one.Goals as goal

pub returns-then-wrote : goal.returns-then-wrote
returns-then-wrote c =
    let entries = entries_of c.args.replies.now in
    some-passes (λ (of : RowKey). is_number_in (numbers_of entries (place_in of)) c.args.number) c.args.keys.now c.loop-of.of-index _ c.loop-of-test.true _ c.loop-of.invariant
    (ap (λ (ns : List ℕ). is_number_in ns c.args.number) (sym (row-numbers entries (place_in _)))
    ∙ ap (λ (of : Target). is_number_in (numbers_at entries of) c.args.number) (sym c.row_target.ensures)
    ∙ sym c.wrote.ensures ∙ c.if-wrote.true)

pub loop-of-preserved : goal.loop-of-preserved
loop-of-preserved c =
    let entries = entries_of c.args.replies.now in
    some-fails (λ (of : RowKey). is_number_in (numbers_of entries (place_in of)) c.args.number) c.args.keys.now c.loop-of.of-index _ c.loop-of-test.true _ c.loop-of.invariant
    (ap (λ (ns : List ℕ). is_number_in ns c.args.number) (sym (row-numbers entries (place_in _)))
    ∙ ap (λ (of : Target). is_number_in (numbers_at entries of) c.args.number) (sym c.row_target.ensures)
    ∙ sym c.wrote.ensures ∙ c.if-wrote.false)
