use Rattle.std.proofs.Common.{◌≡◌, ℕ, Bool, ◌&&◌, ◌∙◌, ap, subst}
use Rattle.workload_spec.specs.declared.reply.Who.TheVariants.{Session}
use Rattle.outcome_spec.specs.Entries.{is_same}
use Rattle.outcome_spec.specs.Runs.{accepted_write}
use Rattle.mark_index.specs.Lists.{marks_at, with_mark}
use Rattle.mark_index.specs.Marks.{next_peak}
use Rattle.mark_index.proofs.Noted.{on-ok}
use Rattle.output_read.specs.Kept.{entry_of}
use Rattle.outcome_counts.specs.Keys.{is_keyed}
use Rattle.outcome_judge.specs.Leads.{AreFollowed}
use Rattle.outcome_judge.specs.Rivals.{row_of, writer_cmp}
use Rattle.outcome_judge.specs.Written.{writes_to}
use Rattle.outcome_judge.specs.HistoryKept.{key_cmp, place_in}
use Rattle.outcome_judge.specs.declared.keys.RowKey.{RowKey}
use Rattle.outcome_judge.proofs.Marking.{writes-keyed}
use Rattle.outcome_judge.proofs.rivals.Rivals.note.Goals as goal

pub returns : goal.returns
returns c =
    let before = c.args.self.now in
    let entry = entry_of c.args.reply.now in
    let place : ℕ = c.args.place in
    let until : ℕ = c.args.until in
    let keyed : (of : RowKey) → is_keyed key_cmp of c.written_by-of.result ≡ writes_to (place_in of) entry = λ of. writes-keyed of c.written_by-of.result (accepted_write entry) c.written_by-of.ensures in
    on-ok _ _ c.note_lead.result (λ leads. record {
      writers = λ writer. c.in_ok-note_writer.ensures writer
          ∙ ap (λ (b : Bool). with_mark b (next_peak (marks_at writer_cmp before.writers writer) place place until) (marks_at writer_cmp before.writers writer))
          (c.writer_of.ensures writer ∙ ap (λ (b : Bool). is_same entry.reply.who (Session writer.session) && b) (keyed (row_of writer)));
      leads = λ of. subst (λ (b : Bool). AreFollowed b place entry.reply.who until (marks_at key_cmp before.leads of) (marks_at key_cmp c.note_lead.new.leads of)) (keyed of) (leads of);
    }) c.note_lead.ensures
