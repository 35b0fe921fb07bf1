use Rattle.std.proofs.Common.{◌≡◌, ◌<◌, ◌≤◌, ℕ, nat_lt, sym, subst, arith, length}
use Rattle.std.specs.Prelude.{slice_index_or}
use Rattle.std.proofs.lemmas.Bool.Decides.{nat_tests}
use Rattle.std.proofs.lemmas.List.{get_or_default}
use Rattle.mark_index.specs.Lists.{marks_at}
use Rattle.mark_index.specs.Marks.{ArePeaks}
use Rattle.mark_index.proofs.Noted.{peaks-next, peaks-nil}
use Rattle.output_read.specs.Kept.{entries_of, entry_of}
use Rattle.output_read.specs.declared.kept.KeptReply.{KeptReply}
use Rattle.outcome_counts.specs.BlockMarks.{starts_in}
use Rattle.outcome_counts.proofs.Starts.{at-place, kept-at, starts-are}
use Rattle.outcome_judge.specs.Targets.{target_cmp}
use Rattle.outcome_judge.specs.Writers.{value_at}
use Rattle.outcome_judge.proofs.writers.Written.peaks.Goals as goal

pub loop-place-init : goal.loop-place-init
loop-place-init c = λ of.
    let entries = entries_of c.args.replies.now in
    subst (ArePeaks (value_at entries of) (starts_in entries) entries 0) (sym (c.new-peaks.ensures of)) (peaks-nil (value_at entries of) (starts_in entries) entries (starts-are entries c.requires.written.output.rises))

pub note_line-requires-clause-rise : goal.note_line-requires-clause-rise
note_line-requires-clause-rise c = λ of. (c.loop-place.invariant of).rise

pub note_line-requires-clause-below : goal.note_line-requires-clause-below
note_line-requires-clause-below c = λ of. (c.loop-place.invariant of).within

pub loop-place-preserved : goal.loop-place-preserved
loop-place-preserved c = λ of.
    let replies = c.args.replies.now in
    let entries = entries_of replies in
    let place : ℕ = c.loop-place.place in
    let inside : place < length replies = c.loop-place-test.true in
    let some_reply : KeptReply = (at-place replies place inside).item in
    let reply : KeptReply = slice_index_or replies place some_reply in
    let at = kept-at replies place reply inside (get_or_default replies place some_reply reply inside) in
    let value : ℕ = value_at entries of (entry_of reply) in
    peaks-next (value_at entries of) (starts_in entries) entries at.front (entry_of reply) at.rest place at.whole at.far (starts-are entries c.requires.written.output.rises)
    (marks_at target_cmp c.loop-place.peaks of) (marks_at target_cmp c.note_line.new.peaks of) (c.loop-place.invariant of) (nat_lt 0 value)
    (λ none. grind (arith, nat_tests, none)) (c.in_ok-note_line.ensures some_reply of)

pub returns : goal.returns
returns c =
    let high : c.loop-place.place ≤ length c.args.replies.now = c.loop-place.auto.place-end in
    let past : length c.args.replies.now ≤ c.loop-place.place = c.loop-place-test.false in
    let end : c.loop-place.place ≡ length c.args.replies.now = omega (arith, high, past) in
    λ of. subst (λ (n : ℕ). ArePeaks (value_at (entries_of c.args.replies.now) of) (starts_in (entries_of c.args.replies.now)) (entries_of c.args.replies.now) n (marks_at target_cmp c.loop-place.peaks of)) end (c.loop-place.invariant of)
