use Rattle.std.proofs.Common.{◌≤◌, ◌∙◌, ap, length, arith}
use Rattle.outcome_spec.specs.Explained.{is_sound}
use Rattle.outcome_spec.specs.Runs.{run_of}
use Rattle.output_read.specs.Kept.{entries_of}
use Rattle.output_read.specs.declared.kept.KeptReply.{KeptReply}
use Rattle.outcome_judge.proofs.Ends.{ends-in-front, ends-behind}
use Rattle.outcome_judge.proofs.Found.{any-index}
use Rattle.outcome_judge.proofs.judge.unsound_line.Goals as goal

pub returns-then-end-replies : goal.returns-then-end-replies
returns-then-end-replies c =
    ends-in-front (is_sound (run_of c.args.tables.now (entries_of c.args.replies.now))) c.args.replies.now c.in_ok-end.end _ c.if-end-replies.true c.in_ok-end.ensures
    (λ none. c.from.ensures ∙ ap (λ (kept : KeptReply). kept.number) (any-index c.args.replies.now c.in_ok-end.end c.index-replies-end.result none c.if-end-replies.true))

pub returns-else-end-replies : goal.returns-else-end-replies
returns-else-end-replies c =
    let past = c.if-end-replies.false in
    let most : length c.args.replies.now ≤ c.in_ok-end.end = omega (arith, past) in
    ends-behind (is_sound (run_of c.args.tables.now (entries_of c.args.replies.now))) c.args.replies.now c.in_ok-end.end most c.in_ok-end.ensures
