use Rattle.std.proofs.Common.{◌∙◌, ap, ℕ, Option}
use Rattle.std.specs.Ordering.{nat_cmp}
use Rattle.std.specs.Prelude.{option_map}
use Rattle.mark_index.specs.Lists.{marks_at, with_mark}
use Rattle.mark_index.specs.Marks.{next_peak}
use Rattle.mark_index.proofs.Noted.{on-ok}
use Rattle.outcome_counts.specs.Keys.{block_cmp, stamp_cmp, above_told, is_keyed}
use Rattle.outcome_counts.specs.declared.keys.Block.{Block}
use Rattle.outcome_counts.specs.declared.keys.Stamp.{Stamp}
use Rattle.outcome_counts.proofs.block_marks.BlockMarks.note.Goals as goal

pub returns : goal.returns
returns c =
    let before = c.args.self.now in
    let place : ℕ = c.args.place in
    let start : ℕ = c.args.start in
    let told = c.stamp_told-stamp.ensures in
    let sealed = c.block_sealed.ensures ∙ ap (λ (o : Option Stamp). option_map (λ t. t.of) o) told in
    on-ok _ _ c.note_peak.result (λ peaks. record {
      inserts = λ table. c.in_ok-note_key.ensures table ∙ ap (λ (o : Option ℕ). with_mark (is_keyed nat_cmp table o) place (marks_at nat_cmp before.inserts table)) c.inserted_into.ensures;
      seals = λ block. c.in_ok-note_key-2.ensures block ∙ ap (λ (o : Option Block). with_mark (is_keyed block_cmp block o) place (marks_at block_cmp before.seals block)) sealed;
      stamps = λ stamp. c.in_ok-note_key-3.ensures stamp ∙ ap (λ (o : Option Stamp). with_mark (is_keyed stamp_cmp stamp o) place (marks_at stamp_cmp before.stamps stamp)) told;
      freezes = λ block. c.in_ok-note_key-4.ensures block ∙ ap (λ (o : Option Block). with_mark (is_keyed block_cmp block o) place (marks_at block_cmp before.freezes block)) c.block_frozen.ensures;
      peaks = λ block. peaks block ∙ ap (λ (o : Option Stamp). with_mark (is_keyed block_cmp block (option_map (λ t. t.of) o)) (next_peak (marks_at block_cmp before.peaks block) place start (above_told block o)) (marks_at block_cmp before.peaks block)) told;
    }) c.note_peak.ensures
