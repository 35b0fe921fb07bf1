use Rattle.std.proofs.Common.{◌∙◌, ◌&&◌, Bool, ap}
use Rattle.output_read.specs.Kept.{entries_of}
use Rattle.outcome_counts.specs.Asked.{asked_at}
use Rattle.outcome_spec.specs.Runs.{run_of}
use Rattle.outcome_judge.specs.Conflicts.{heights_hold}
use Rattle.outcome_judge.proofs.commits.Heights.all_stand.Goals as goal

pub returns : goal.returns
returns c = λ tables none.
    c.both_hold.ensures
    ∙ ap (λ (b : Bool). b && c.tops_stand-reads.result) (c.heights_hold-writes.ensures tables none)
    ∙ ap (λ (b : Bool). heights_hold (run_of tables (entries_of c.args.replies.now)) (asked_at c.args.replies.now c.args.at none) && b) (c.tops_stand-reads.ensures tables none)
