use Rattle.std.proofs.Common.{◌∙◌, ◌&&◌, Option, ap, sym}
use Rattle.std.specs.Ordering.{is_eq}
use Rattle.workload_spec.specs.declared.reply.Who.{Who}
use Rattle.workload_spec.specs.declared.reply.Who.TheVariants.{Session}
use Rattle.outcome_spec.specs.Entries.{is_same}
use Rattle.outcome_counts.specs.Keys.{is_keyed}
use Rattle.outcome_judge.specs.HistoryKept.{key_cmp}
use Rattle.outcome_judge.specs.declared.keys.RowKey.{RowKey}
use Rattle.outcome_judge.specs.Rivals.{row_of, writer_at, writer_cmp}
use Rattle.outcome_judge.specs.declared.rivals.Writer.{Writer}
use Rattle.outcome_judge.proofs.Marking.{writer-same}
use Rattle.outcome_judge.proofs.rivals.writer_of.Goals as goal

pub returns-in-Session-Some : goal.returns-in-Session-Some
returns-in-Session-Some c = λ other.
    let row = c.in-Session-Some.of in
    ap (λ (w : Writer). is_eq (writer_cmp w other)) c.writer_at.ensures
    ∙ writer-same (writer_at row c.in-Session-Some.session) other
    ∙ ap (λ (who : Who). is_same who (Session other.session) && is_eq (key_cmp row (row_of other))) (sym c.in-Session-Some.is-0)
    ∙ ap (λ (of : Option RowKey). is_same c.args.reply.now.who (Session other.session) && is_keyed key_cmp (row_of other) of) (sym c.in-Session-Some.is-1)
