use Rattle.std.proofs.Common.{◌∙◌, ℕ, List, ap}
use Rattle.output_read.specs.Kept.{entries_of}
use Rattle.outcome_judge.specs.Conflicts.{is_first}
use Rattle.outcome_judge.specs.HistoryKept.{place_in}
use Rattle.outcome_judge.specs.Writers.{numbers_at}
use Rattle.outcome_judge.specs.declared.keys.Target.{Target}
use Rattle.outcome_judge.proofs.Targets.{row-numbers}
use Rattle.outcome_judge.proofs.Updating.{first-updater}
use Rattle.outcome_judge.proofs.commits.Numbers.is_first_updater.Goals as goal

pub returns : goal.returns
returns c = λ tables span told.
    let entries = entries_of c.args.replies.now in
    c.is_first.ensures
    ∙ ap (λ (of : Target). is_first c.args.t (numbers_at entries of)) c.row_target.ensures
    ∙ ap (λ (ns : List ℕ). is_first c.args.t ns) (row-numbers entries (place_in c.args.of))
    ∙ first-updater tables entries span (place_in c.args.of) c.args.t told
