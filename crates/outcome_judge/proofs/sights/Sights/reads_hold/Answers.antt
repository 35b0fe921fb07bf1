use Rattle.std.proofs.Common.{sym, length}
use Rattle.output_read.specs.Kept.{entries_of}
use Rattle.output_read.specs.declared.kept.KeptReply.{KeptReply}
use Rattle.outcome_counts.specs.Asked.{asked_at}
use Rattle.outcome_spec.specs.Answers.{read_holds, reads_hold}
use Rattle.outcome_spec.specs.Runs.{run_of}
use Rattle.outcome_judge.specs.Seen.{seen_up_to}
use Rattle.outcome_judge.proofs.ReadsJudged.{if-each, reads-none, reads-some}
use Rattle.outcome_judge.proofs.sights.Sights.reads_hold.Goals as goal

pub returns-in-None : goal.returns-in-None
returns-in-None c = λ tables none. reads-none tables c.args.openings.now c.args.replies.now c.requires.output c.args.at c.requires.inside none (sym c.in-None.ensures)

pub returns-in-Some : goal.returns-in-Some
returns-in-Some c = λ tables.
    let replies = c.args.replies.now in
    if-each c.read_holds.result
    (λ (none : KeptReply). read_holds (seen_up_to c.args.openings.now (entries_of replies) (length replies) c.in-Some.opening c.args.at) (asked_at replies c.args.at none).command (asked_at replies c.args.at none).reply.said)
    (λ (none : KeptReply). reads_hold (run_of tables (entries_of replies)) (asked_at replies c.args.at none))
    c.read_holds.ensures
    (λ none. reads-some tables c.args.openings.now replies c.requires.output c.args.at c.requires.inside none c.in-Some.opening (sym c.in-Some.ensures))
