use Rattle.outcome_spec.specs.Runs.{run_of}
use Rattle.output_read.specs.Kept.{entries_of}
use Rattle.outcome_counts.specs.Asked.{asked_at}
use Rattle.outcome_counts.proofs.Committed.{shows-none, shows-number, shows-nothing}
use Rattle.outcome_counts.proofs.spans.Spans.may_show.Goals as goal

pub returns-in-None : goal.returns-in-None
returns-in-None c = λ tables none.
    let replies = c.args.replies.now in
    shows-none (run_of tables (entries_of replies)) (asked_at replies c.args.at none) c.args.number c.has_written-written.result c.in-None.is (c.has_written-written.ensures tables none)

pub returns-then-written : goal.returns-then-written
returns-then-written c = λ tables none.
    let replies = c.args.replies.now in
    shows-number (run_of tables (entries_of replies)) (asked_at replies c.args.at none) c.args.number c.has_written-written.result c.is_commit_number.result c.in-Some.number c.in-Some.is (c.has_written-written.ensures tables none)
    c.if-written.true (c.is_commit_number.ensures tables none)

pub returns-else-written : goal.returns-else-written
returns-else-written c = λ tables none.
    let replies = c.args.replies.now in
    shows-nothing (run_of tables (entries_of replies)) (asked_at replies c.args.at none) c.args.number c.has_written-written.result c.in-Some.number c.in-Some.is (c.has_written-written.ensures tables none) c.if-written.false
