use Rattle.std.proofs.Common.{◌<◌, ◌≤◌, length, arith}
use Rattle.outcome_judge.specs.Judged.{heights_stand}
use Rattle.outcome_spec.specs.Runs.{run_of}
use Rattle.output_read.specs.Kept.{entries_of}
use Rattle.outcome_judge.proofs.Ends.{goes-through, known-behind, stops-at}
use Rattle.outcome_judge.proofs.Found.{sound-so-far}
use Rattle.outcome_judge.proofs.clashes.heights_end.Goals as goal

pub returns-then-not-all_stand : goal.returns-then-not-all_stand
returns-then-not-all_stand c = λ tables.
    stops-at (heights_stand (run_of tables (entries_of c.args.replies.now))) c.args.replies.now c.args.until c.loop-at.at c.loop-at-test.true (c.loop-at.invariant.0 tables)
    (λ none. c.if-not-all_stand.ensures tables none)

pub loop-at-preserved : goal.loop-at-preserved
loop-at-preserved c = (
  λ tables.
      let below : c.loop-at.at < length c.args.replies.now = omega (arith, c.loop-at-test.true, c.requires.within) in
      sound-so-far (heights_stand (run_of tables (entries_of c.args.replies.now))) c.args.replies.now c.loop-at.at below (c.loop-at.invariant.0 tables)
      (λ none. c.if-not-all_stand.ensures tables none),
  known-behind c.args.replies.now c.loop-at.at c.stretch_behind-stretch.result c.stretch_behind-stretch.ensures,
)

pub returns : goal.returns
returns c = λ tables.
    let past = c.loop-at-test.false in
    let most : c.args.until ≤ c.loop-at.at = omega (arith, past) in
    goes-through (heights_stand (run_of tables (entries_of c.args.replies.now))) c.args.replies.now c.args.until c.loop-at.at most (c.loop-at.invariant.0 tables)
