use Rattle.std.proofs.Common.{◌∙◌, ◌≤◌, ap, sym, List, ℕ, length, arith}
use Rattle.output_read.specs.Kept.{entries_of}
use Rattle.outcome_counts.specs.Asked.{asked_at}
use Rattle.outcome_judge.specs.Conflicts.{is_highest}
use Rattle.outcome_judge.specs.HistoryKept.{place_in}
use Rattle.outcome_judge.specs.Writers.{numbers_at, numbers_of}
use Rattle.outcome_judge.specs.declared.keys.RowKey.{RowKey}
use Rattle.outcome_judge.specs.declared.keys.Target.{Target}
use Rattle.outcome_judge.proofs.Meetings.{all-gone, one-fails, one-passes}
use Rattle.outcome_judge.proofs.Targets.{row-numbers}
use Rattle.outcome_judge.proofs.commits.Heights.are_highest.Goals as goal

pub returns-then-not-is_highest : goal.returns-then-not-is_highest
returns-then-not-is_highest c = λ none.
    let entries = entries_of c.args.replies.now in
    let entry = asked_at c.args.replies.now c.args.at none in
    one-fails (λ (of : RowKey). is_highest entries (numbers_of entries (place_in of)) entry c.args.number) c.args.keys.now c.loop-of.of-index _ c.loop-of-test.true _ (c.loop-of.invariant none)
    (ap (λ (ns : List ℕ). is_highest entries ns entry c.args.number) (sym (row-numbers entries (place_in _)))
    ∙ ap (λ (of : Target). is_highest entries (numbers_at entries of) entry c.args.number) (sym c.row_target.ensures)
    ∙ sym (c.is_highest.ensures none) ∙ c.if-not-is_highest.true)

pub loop-of-preserved : goal.loop-of-preserved
loop-of-preserved c = λ none.
    let entries = entries_of c.args.replies.now in
    let entry = asked_at c.args.replies.now c.args.at none in
    one-passes (λ (of : RowKey). is_highest entries (numbers_of entries (place_in of)) entry c.args.number) c.args.keys.now c.loop-of.of-index _ c.loop-of-test.true _ (c.loop-of.invariant none)
    (ap (λ (ns : List ℕ). is_highest entries ns entry c.args.number) (sym (row-numbers entries (place_in _)))
    ∙ ap (λ (of : Target). is_highest entries (numbers_at entries of) entry c.args.number) (sym c.row_target.ensures)
    ∙ sym (c.is_highest.ensures none) ∙ c.if-not-is_highest.false)

pub returns : goal.returns
returns c = λ none.
    let entries = entries_of c.args.replies.now in
    let past = c.loop-of-test.false in
    let most : length c.args.keys.now ≤ c.loop-of.of-index = omega (arith, past) in
    all-gone (λ (of : RowKey). is_highest entries (numbers_of entries (place_in of)) (asked_at c.args.replies.now c.args.at none) c.args.number) c.args.keys.now c.loop-of.of-index most _ (c.loop-of.invariant none)
