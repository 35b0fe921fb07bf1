use Rattle.std.proofs.Common.{◌≡◌, ◌∙◌, ℕ, Option, None, Some, ap, length, arith}
use Rattle.std.specs.BTreeMap.{get}
use Rattle.std.specs.List.{find}
use Rattle.std.specs.Option.{option_or}
use Rattle.std.specs.Ordering.{nat_cmp}
use Rattle.std.specs.Prelude.{if◌then◌else◌}
use Rattle.std.proofs.lemmas.List.{length-map, take_all}
use Rattle.output_read.specs.Kept.{entries_of, entry_of}
use Rattle.outcome_counts.specs.Keys.{is_keyed}
use Rattle.outcome_counts.proofs.Starts.{kept-at}
use Rattle.outcome_spec.specs.Runs.{commits_as}
use Rattle.outcome_judge.proofs.Noting.{line-next}
use Rattle.outcome_judge.proofs.lines.lines_of.Goals as goal

pub loop-place-preserved : goal.loop-place-preserved
loop-place-preserved c = λ number.
    let replies = c.args.replies.now in
    let place : ℕ = c.loop-place.place in
    let reply = c.index-replies-place.result in
    let at = kept-at replies place reply c.loop-place-test.true c.index-replies-place.is in
    line-next (entries_of replies) at.front (entry_of reply) at.rest place at.whole at.far number (get nat_cmp c.loop-place.lines number) (get nat_cmp c.note_line.new.lines number)
    (c.loop-place.invariant number)
    (c.in_ok-note_line.ensures number ∙ ap (λ (o : Option ℕ). option_or (get nat_cmp c.loop-place.lines number) (if is_keyed nat_cmp number o then Some place else None)) c.number_told.ensures)

pub returns : goal.returns
returns c = λ number.
    let entries = entries_of c.args.replies.now in
    let long : length entries ≡ length c.args.replies.now = length-map c.args.replies.now entry_of in
    let end = c.loop-place-test.false in
    (c.loop-place.invariant number).line ∙ ap (find (commits_as number)) (take_all c.loop-place.place entries (omega (arith, long, end)))
