use Rattle.std.proofs.Common.{ℕ, ◌∙◌, ap, sym, Option}
use Rattle.std.specs.Ordering.{is_eq}
use Rattle.mark_index.specs.Lists.{marks_at, with_mark}
use Rattle.mark_index.specs.Marks.{next_peak}
use Rattle.outcome_counts.specs.Keys.{is_keyed}
use Rattle.outcome_judge.specs.Rivals.{writer_cmp}
use Rattle.outcome_judge.specs.declared.rivals.Writer.{Writer}
use Rattle.outcome_judge.proofs.Marking.{writer-one, pushed-own}
use Rattle.outcome_judge.proofs.rivals.note_writer.Goals as goal

pub returns-in_ok-push_peak : goal.returns-in_ok-push_peak
returns-in_ok-push_peak c = λ other.
    let writers = c.args.writers.now in
    let writer = c.in-Some.writer in
    let place : ℕ = c.args.place in
    let until : ℕ = c.args.until in
    c.in_ok-push_peak.ensures other
    ∙ ap (λ (n : ℕ). with_mark (is_eq (writer_cmp writer other)) (next_peak (marks_at writer_cmp writers writer) place place n) (marks_at writer_cmp writers other)) c.from.ensures
    ∙ pushed-own writer other (is_eq (writer_cmp writer other)) (writer-one writer other) (marks_at writer_cmp writers) (λ peaks. next_peak peaks place place until)
    ∙ ap (λ (o : Option Writer). with_mark (is_keyed writer_cmp other o) (next_peak (marks_at writer_cmp writers other) place place until) (marks_at writer_cmp writers other)) (sym c.in-Some.is)
