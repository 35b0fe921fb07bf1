use Rattle.std.proofs.Common.{◌≡◌, ◌∙◌, ◌≤◌, ap, sym, subst, ℕ, length, arith}
use Rattle.output_read.specs.Kept.{entries_of, entry_of}
use Rattle.output_read.specs.declared.kept.KeptReply.{KeptReply}
use Rattle.order_laws.specs.Places.{own_start}
use Rattle.outcome_counts.specs.BlockMarks.{AreBlockMarks, IsNoted, starts_in}
use Rattle.outcome_counts.specs.declared.stretch.Stretch.{Stretch}
use Rattle.outcome_counts.proofs.Behind.{known-behind}
use Rattle.outcome_counts.proofs.Starts.{kept-at, start-at, starts-are}
use Rattle.outcome_counts.proofs.Noted.{block-marks-next}
use Rattle.outcome_counts.proofs.block_marks.BlockMarks.of.Goals as goal

pub note-requires : goal.note-requires
note-requires c = λ block. (c.loop-place.invariant.0.peaks block).rise

pub loop-place-preserved : goal.loop-place-preserved
loop-place-preserved c =
    let replies = c.args.replies.now in
    let place : ℕ = c.loop-place.place in
    let reply = c.index-replies-place.result in
    let at = kept-at replies place reply c.loop-place-test.true c.index-replies-place.is in
    let own : c.stretch_behind-stretch.result.own_start ≡ own_start (entries_of replies) (entry_of reply) =
    ap (λ (s : Stretch). s.own_start) (c.stretch_behind-stretch.ensures.places reply) ∙ ap (λ (k : KeptReply). own_start (entries_of replies) (entry_of k)) (at.there reply) in
    let start : c.stretch_behind-stretch.result.own_start ≡ starts_in (entries_of replies) place = own ∙ sym (start-at (entries_of replies) at.front (entry_of reply) at.rest place at.whole at.far) in (
      block-marks-next (entries_of replies) at.front (entry_of reply) at.rest place at.whole at.far (starts-are (entries_of replies) c.requires) c.loop-place.marks c.note.new.self c.loop-place.invariant.0
          (subst (λ (n : ℕ). IsNoted (entry_of reply) place n c.loop-place.marks c.note.new.self) start c.in_ok-note.ensures),
      known-behind replies place c.stretch_behind-stretch.result c.stretch_behind-stretch.ensures,
    )

pub returns : goal.returns
returns c =
    let high : c.loop-place.place ≤ length c.args.replies.now = c.loop-place.auto.place-end in
    let past : length c.args.replies.now ≤ c.loop-place.place = c.loop-place-test.false in
    let end : c.loop-place.place ≡ length c.args.replies.now = omega (arith, high, past) in
    subst (λ (n : ℕ). AreBlockMarks (entries_of c.args.replies.now) n c.loop-place.marks) end c.loop-place.invariant.0
