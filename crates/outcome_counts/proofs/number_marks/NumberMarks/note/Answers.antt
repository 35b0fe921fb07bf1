use Rattle.std.proofs.Common.{◌∙◌, ap, ℕ, Option}
use Rattle.std.specs.Ordering.{nat_cmp}
use Rattle.std.specs.Prelude.{is_some}
use Rattle.mark_index.specs.Lists.{marks_at, with_mark}
use Rattle.mark_index.proofs.Noted.{on-ok}
use Rattle.outcome_counts.specs.Keys.{is_keyed}
use Rattle.outcome_counts.specs.NumberMarks.{with_peak}
use Rattle.outcome_counts.proofs.number_marks.NumberMarks.note.Goals as goal

pub returns : goal.returns
returns c =
    let before = c.args.self.now in
    let place : ℕ = c.args.place in
    let start : ℕ = c.args.start in
    let told = c.commit_told-commit.ensures in
    on-ok _ _ c.note_number-2.result (λ shown. record {
      commits = λ number. c.in_ok-note_key.ensures number ∙ ap (λ (o : Option ℕ). with_mark (is_keyed nat_cmp number o) place (marks_at nat_cmp before.commits number)) told;
      numbered = c.in_ok-note_place.ensures ∙ ap (λ (o : Option ℕ). with_mark (is_some o) place before.numbered.items) told;
      committed = c.in_ok-note_number.ensures ∙ ap (λ (o : Option ℕ). with_peak o place start before.committed.items) told;
      shown = shown ∙ ap (λ (o : Option ℕ). with_peak o place start before.shown.items) c.shown_told.ensures;
    }) c.note_number-2.ensures
