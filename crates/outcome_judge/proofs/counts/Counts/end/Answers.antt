use Rattle.std.proofs.Common.{◌≤◌, length, arith}
use Rattle.outcome_spec.specs.Runs.{run_of}
use Rattle.output_read.specs.Kept.{entries_of}
use Rattle.outcome_judge.specs.Judged.{counts_hold}
use Rattle.outcome_judge.proofs.Ends.{goes-through, known-behind, stops-at}
use Rattle.outcome_judge.proofs.Found.{sound-so-far}
use Rattle.outcome_judge.proofs.counts.Counts.end.Goals as goal

pub returns-then-not-counts_hold : goal.returns-then-not-counts_hold
returns-then-not-counts_hold c =
    stops-at (counts_hold (run_of c.args.tables.now (entries_of c.args.replies.now))) c.args.replies.now (length c.args.replies.now) c.loop-at.at c.loop-at-test.true c.loop-at.invariant.0
    (λ none. c.if-not-counts_hold.ensures none)

pub loop-at-preserved : goal.loop-at-preserved
loop-at-preserved c = (
  sound-so-far (counts_hold (run_of c.args.tables.now (entries_of c.args.replies.now))) c.args.replies.now c.loop-at.at c.loop-at-test.true c.loop-at.invariant.0
      (λ none. c.if-not-counts_hold.ensures none),
  known-behind c.args.replies.now c.loop-at.at c.stretch_behind-stretch.result c.stretch_behind-stretch.ensures,
)

pub returns : goal.returns
returns c =
    let past = c.loop-at-test.false in
    let most : length c.args.replies.now ≤ c.loop-at.at = omega (arith, past) in
    goes-through (counts_hold (run_of c.args.tables.now (entries_of c.args.replies.now))) c.args.replies.now (length c.args.replies.now) c.loop-at.at most c.loop-at.invariant.0
