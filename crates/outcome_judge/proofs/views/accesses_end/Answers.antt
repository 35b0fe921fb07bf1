use Rattle.std.proofs.Common.{◌<◌, ◌≤◌, ◌∙◌, sym, length, arith}
use Rattle.outcome_spec.specs.Runs.{run_of}
use Rattle.output_read.specs.Kept.{entries_of}
use Rattle.outcome_judge.specs.Judged.{accesses_hold}
use Rattle.outcome_judge.proofs.Ends.{goes-through, stops-at}
use Rattle.outcome_judge.proofs.Found.{sound-so-far}
use Rattle.outcome_judge.proofs.views.accesses_end.Goals as goal

pub returns-then-not-branch : goal.returns-then-not-branch
returns-then-not-branch c = λ tables.
    stops-at (accesses_hold (run_of tables (entries_of c.args.replies.now))) c.args.replies.now c.args.until c.loop-at.at c.loop-at-test.true (c.loop-at.invariant tables)
    (λ none. sym c.if-not-branch.true ∙ c.in_ok-accesses_hold.ensures tables none)

pub loop-at-preserved : goal.loop-at-preserved
loop-at-preserved c = λ tables.
    let below : c.loop-at.at < length c.args.replies.now = omega (arith, c.loop-at-test.true, c.requires.within) in
    sound-so-far (accesses_hold (run_of tables (entries_of c.args.replies.now))) c.args.replies.now c.loop-at.at below (c.loop-at.invariant tables)
    (λ none. sym c.if-not-branch.false ∙ c.in_ok-accesses_hold.ensures tables none)

pub returns : goal.returns
returns c = λ tables.
    let past = c.loop-at-test.false in
    let most : c.args.until ≤ c.loop-at.at = omega (arith, past) in
    goes-through (accesses_hold (run_of tables (entries_of c.args.replies.now))) c.args.replies.now c.args.until c.loop-at.at most (c.loop-at.invariant tables)
