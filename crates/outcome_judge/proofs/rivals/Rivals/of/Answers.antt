use Rattle.std.proofs.Common.{◌≡◌, ◌∙◌, ap, subst, ℕ, List, length, get_or, arith}
use Rattle.std.proofs.lemmas.List.{length-map}
use Rattle.output_read.specs.Kept.{entries_of, entry_of}
use Rattle.outcome_counts.proofs.Starts.{kept-at}
use Rattle.outcome_judge.specs.Held.{Held, held_in, held_at}
use Rattle.outcome_judge.specs.Rivals.{IsMarked}
use Rattle.outcome_judge.proofs.Splits.{held-at, held-long}
use Rattle.outcome_judge.proofs.Marking.{rivals-next, rivals-nil, map-got}
use Rattle.outcome_judge.proofs.rivals.Rivals.of.Goals as goal

pub index-requires : goal.index-requires
index-requires c =
    let entries = entries_of c.args.replies.now in
    let long : length c.in_ok-untils.untils.items ≡ length c.args.replies.now =
    ap length c.in_ok-untils.ensures ∙ length-map (held_in entries) (λ (h : Held). h.until) ∙ held-long _ entries ∙ length-map c.args.replies.now entry_of in
    let inside = c.loop-place-test.true in
    omega (arith, long, inside)

pub note-requires-clause-rise : goal.note-requires-clause-rise
note-requires-clause-rise c = λ writer. (c.loop-place.invariant.writers writer).rise

pub note-requires-clause-ordered : goal.note-requires-clause-ordered
note-requires-clause-ordered c = λ of. (c.loop-place.invariant.leads of).ordered

pub loop-place-init : goal.loop-place-init
loop-place-init c = rivals-nil (entries_of c.args.replies.now) c.new-rivals.result c.new-rivals.ensures.writers c.new-rivals.ensures.leads

pub loop-place-preserved : goal.loop-place-preserved
loop-place-preserved c =
    let replies = c.args.replies.now in
    let entries = entries_of replies in
    let place : ℕ = c.loop-place.place in
    let reply = c.index-replies-place.result in
    let at = kept-at replies place reply c.loop-place-test.true c.index-replies-place.is in
    let its = held-at entries at.front (entry_of reply) at.rest place at.whole at.far in
    let held = held_at at.front (entry_of reply) at.rest in
    let until : c.index.result.now ≡ held.until =
    c.index.ensures ∙ ap (λ (xs : List ℕ). get_or xs place c.index.result.now) c.in_ok-untils.ensures
    ∙ map-got (λ (h : Held). h.until) (held_in entries) its.front held its.rest place c.index.result.now its.whole its.far in
    rivals-next entries its.front held its.rest place its.whole its.far c.loop-place.rivals c.note.new.self c.loop-place.invariant
    (subst (λ (n : ℕ). IsMarked (record { entry = entry_of reply; until = n }) place c.loop-place.rivals c.note.new.self) until c.in_ok-note.ensures)
