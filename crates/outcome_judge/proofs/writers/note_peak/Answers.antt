use Rattle.std.proofs.Common.{◌≡◌, ◌==◌, ◌&&◌, not, ℕ, OnOk, subst}
use Rattle.std.specs.Ordering.{is_eq}
use Rattle.mark_index.specs.Lists.{is_last, marks_at, with_mark}
use Rattle.mark_index.specs.Marks.{next_peak}
use Rattle.mark_index.specs.declared.marks.Peak.{Peak}
use Rattle.outcome_judge.specs.Targets.{target_cmp}
use Rattle.outcome_judge.specs.declared.keys.Target.{Target}
use Rattle.outcome_judge.proofs.writers.note_peak.Goals as goal

pub returns : goal.returns
returns c =
    let peaks = c.args.peaks.now in
    let of : Target = c.args.of in
    let place : ℕ = c.args.place in
    subst (λ (value : ℕ). OnOk c.push_peak_once.result ((other : Target) → marks_at target_cmp c.push_peak_once.new.self other
    ≡ with_mark (is_eq (target_cmp of other) && not (is_last (λ (its : Peak). its.place == place) (marks_at target_cmp peaks of))) (next_peak (marks_at target_cmp peaks of) place c.args.start value) (marks_at target_cmp peaks other)))
    c.from.ensures c.push_peak_once.ensures
