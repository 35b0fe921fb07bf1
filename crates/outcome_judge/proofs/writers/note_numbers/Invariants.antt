use Rattle.std.proofs.Common.{◌≡◌, take}
use Rattle.mark_index.specs.Lists.{marks_at, with_mark}
use Rattle.outcome_judge.specs.Targets.{target_cmp}
use Rattle.outcome_judge.specs.declared.keys.Target.{Target}
use Rattle.outcome_judge.specs.Writers.{is_written}
use Rattle.outcome_judge.proofs.writers.note_numbers.Given as goal

abbrev pub invariant-loop-change : goal.invariant-loop-change
invariant-loop-change l = (of : Target) → marks_at target_cmp l.numbers of
    ≡ with_mark (is_written of l.bound (take l.change-index l.own)) l.number (marks_at target_cmp l.fn.numbers of)
