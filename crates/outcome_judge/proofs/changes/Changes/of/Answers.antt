use Rattle.std.proofs.Common.{◌≡◌, ◌∙◌, ◌<◌, ap, ℕ, Option, length, arith}
use Rattle.std.specs.Prelude.{option_and_then}
use Rattle.output_read.specs.Kept.{entries_of, entry_of}
use Rattle.outcome_counts.proofs.Starts.{kept-at, at-place}
use Rattle.outcome_judge.proofs.Own.{changes-next}
use Rattle.outcome_judge.proofs.changes.Changes.of.Goals as goal

pub loop-place-preserved : goal.loop-place-preserved
loop-place-preserved c =
    let replies = c.args.replies.now in
    let place : ℕ = c.loop-place.place in
    let reply = c.index-replies-place.result in
    let at = kept-at replies place reply c.loop-place-test.true c.index-replies-place.is in
    let test : place < length replies = c.loop-place-test.true in
    let long : length c.args.openings.now ≡ length replies = c.requires in
    let opened = at-place c.args.openings.now place (omega (arith, test, long)) in
    let is : c.opening_at.result ≡ opened.item = c.opening_at.ensures ∙ ap (λ (x : Option (Option ℕ)). option_and_then (λ (o : Option ℕ). o) x) opened.found in
    changes-next (entries_of replies) at.front (entry_of reply) at.rest c.args.openings.now opened.front opened.item opened.rest place at.whole at.far opened.whole opened.far
    c.loop-place.changes c.note.new.self c.opening_at.result c.change_told-change.result is c.change_told-change.ensures c.loop-place.invariant c.in_ok-note.ensures
