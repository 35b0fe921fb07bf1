use Rattle.std.proofs.Common.{◌∙◌, ap, ℕ, List, Option, None}
use Rattle.std.specs.Ordering.{nat_cmp}
use Rattle.mark_index.specs.Lists.{marks_at}
use Rattle.output_read.specs.Kept.{entries_of}
use Rattle.outcome_judge.specs.Exports.{least_in, least_written}
use Rattle.outcome_judge.specs.Timed.{TimedWrite, up_to}
use Rattle.outcome_judge.proofs.Least.{least-changed}
use Rattle.outcome_judge.proofs.Own.{changes-all}
use Rattle.outcome_judge.proofs.exports.Exports.least_key.Goals as goal

pub returns : goal.returns
returns c =
    let entries = entries_of c.args.replies.now in
    let openings : List (Option ℕ) = c.args.openings.now in
    let own = marks_at nat_cmp c.args.self.now.changes.now.own c.args.opening in
    c.least_key.ensures
    ∙ ap (least_in c.args.table c.args.at) c.at.ensures
    ∙ least-changed c.args.table c.args.at own None
    ∙ ap (λ (ws : List TimedWrite). least_written c.args.table (up_to c.args.at ws)) (changes-all openings entries c.requires.output.own.long c.args.self.now.changes.now c.requires.kept.changes c.args.opening)
