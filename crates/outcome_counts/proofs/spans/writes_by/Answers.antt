use Rattle.std.proofs.Common.{◌∙◌, ap, refl, ℕ, Option}
use Rattle.std.specs.Ordering.{nat_cmp}
use Rattle.mark_index.specs.Lists.{marks_at, with_mark}
use Rattle.mark_index.proofs.Noted.{counted-next}
use Rattle.output_read.specs.Kept.{entries_of, entry_of}
use Rattle.outcome_counts.specs.Keys.{is_keyed}
use Rattle.outcome_counts.proofs.Starts.{kept-at}
use Rattle.outcome_counts.specs.Written.{is_write_by}
use Rattle.outcome_counts.proofs.spans.writes_by.Goals as goal

pub loop-place-preserved : goal.loop-place-preserved
loop-place-preserved c = λ session.
    let replies = c.args.replies.now in
    let place : ℕ = c.loop-place.place in
    let reply = c.index-replies-place.result in
    let at = kept-at replies place reply c.loop-place-test.true c.index-replies-place.is in
    let old = marks_at nat_cmp c.loop-place.writes session in
    counted-next (is_write_by session) (entries_of replies) at.front (entry_of reply) at.rest place at.whole at.far old (marks_at nat_cmp c.note_key.new.index session) (c.loop-place.invariant session)
    (is_write_by session (entry_of reply)) refl
    (c.in_ok-note_key.ensures session ∙ ap (λ (o : Option ℕ). with_mark (is_keyed nat_cmp session o) place old) c.writer_of.ensures)
