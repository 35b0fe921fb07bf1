use Rattle.std.proofs.Common.{◌≡◌, take}
use Rattle.mark_index.specs.Lists.{marks_at, with_mark}
use Rattle.mark_index.specs.Marks.{next_peak}
use Rattle.outcome_judge.specs.Targets.{target_cmp}
use Rattle.outcome_judge.specs.declared.keys.Target.{Target}
use Rattle.outcome_judge.specs.Writers.{is_written}
use Rattle.outcome_judge.proofs.writers.note_peaks.Given as goal

abbrev pub invariant-loop-change : goal.invariant-loop-change
invariant-loop-change l = (of : Target) → marks_at target_cmp l.peaks of
    ≡ with_mark (is_written of l.place (take l.change-index l.own)) (next_peak (marks_at target_cmp l.fn.peaks of) l.place l.start l.number) (marks_at target_cmp l.fn.peaks of)
