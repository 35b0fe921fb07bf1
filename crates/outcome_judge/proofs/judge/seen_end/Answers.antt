use Rattle.std.proofs.Common.{◌&&◌, arith}
use Rattle.outcome_spec.specs.Runs.{run_of}
use Rattle.outcome_spec.specs.Upkeep.{exports_hold}
use Rattle.output_read.specs.Kept.{entries_of}
use Rattle.outcome_judge.specs.Judged.{accesses_hold, views_hold}
use Rattle.outcome_judge.proofs.Answered.{ok-map}
use Rattle.outcome_judge.proofs.Both.{views-in-parts}
use Rattle.outcome_judge.proofs.Ends.{both-end, same-end}
use Rattle.outcome_judge.proofs.judge.seen_end.Goals as goal

pub accesses_end-requires-clause-within : goal.accesses_end-requires-clause-within
accesses_end-requires-clause-within c = omega (arith, c.exports_end-told.ensures.within, c.requires.within)

pub returns : goal.returns
returns c =
    let run = run_of c.args.tables.now (entries_of c.args.replies.now) in
    ok-map _ _ c.accesses_end.result _ _
    (λ place ends. same-end (λ entry. exports_hold run entry && accesses_hold run entry) (views_hold run) c.args.replies.now c.args.until place (views-in-parts run)
    (both-end (exports_hold run) (accesses_hold run) c.args.replies.now c.args.until c.exports_end-told.result place c.exports_end-told.ensures ends))
    (c.accesses_end.ensures c.args.tables.now)
