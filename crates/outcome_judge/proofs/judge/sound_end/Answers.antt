use Rattle.std.proofs.Common.{◌&&◌, length}
use Rattle.outcome_spec.specs.Explained.{is_sound}
use Rattle.outcome_spec.specs.Runs.{run_of}
use Rattle.output_read.specs.Kept.{entries_of}
use Rattle.outcome_judge.specs.Judged.{conflicts_and_views_hold, counts_hold}
use Rattle.outcome_judge.proofs.Answered.{ok-map}
use Rattle.outcome_judge.proofs.Both.{sound-in-order}
use Rattle.outcome_judge.proofs.Ends.{both-end, same-end}
use Rattle.outcome_judge.proofs.judge.sound_end.Goals as goal

pub returns : goal.returns
returns c =
    let run = run_of c.args.tables.now (entries_of c.args.replies.now) in
    ok-map _ _ c.written_end.result _ _
    (λ place written. same-end (λ entry. counts_hold run entry && conflicts_and_views_hold run entry) (is_sound run) c.args.replies.now (length c.args.replies.now) place (sound-in-order run)
    (both-end (counts_hold run) (conflicts_and_views_hold run) c.args.replies.now (length c.args.replies.now) c.end-until.result place c.end-until.ensures written))
    c.written_end.ensures
