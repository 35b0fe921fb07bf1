use Rattle.std.proofs.Common.{◌<◌, ◌≤◌, length, arith}
use Rattle.outcome_spec.specs.Upkeep.{exports_hold}
use Rattle.outcome_spec.specs.Runs.{run_of}
use Rattle.output_read.specs.Kept.{entries_of}
use Rattle.outcome_judge.proofs.Ends.{goes-through, known-behind, stops-at}
use Rattle.outcome_judge.proofs.Found.{sound-so-far}
use Rattle.outcome_judge.proofs.views.exports_end.Goals as goal

pub returns-then-not-exports_hold : goal.returns-then-not-exports_hold
returns-then-not-exports_hold c =
    stops-at (exports_hold (run_of c.args.exports.now.tables.now (entries_of c.args.replies.now))) c.args.replies.now c.args.until c.loop-at.at c.loop-at-test.true c.loop-at.invariant.0
    (λ none. c.if-not-exports_hold.ensures none)

pub loop-at-preserved : goal.loop-at-preserved
loop-at-preserved c = (
  let below : c.loop-at.at < length c.args.replies.now = omega (arith, c.loop-at-test.true, c.requires.within) in
      sound-so-far (exports_hold (run_of c.args.exports.now.tables.now (entries_of c.args.replies.now))) c.args.replies.now c.loop-at.at below c.loop-at.invariant.0
      (λ none. c.if-not-exports_hold.ensures none),
  known-behind c.args.replies.now c.loop-at.at c.stretch_behind-stretch.result c.stretch_behind-stretch.ensures,
)

pub returns : goal.returns
returns c =
    let past = c.loop-at-test.false in
    let most : c.args.until ≤ c.loop-at.at = omega (arith, past) in
    goes-through (exports_hold (run_of c.args.exports.now.tables.now (entries_of c.args.replies.now))) c.args.replies.now c.args.until c.loop-at.at most c.loop-at.invariant.0
