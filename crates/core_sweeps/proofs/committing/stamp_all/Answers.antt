use Rattle.std.proofs.Common.{ℕ, ◌∷◌, [], map, ap, ◌∙◌, sym, subst}
use Rattle.std.proofs.lemmas.List.{map-append}
use Rattle.std.proofs.lemmas.Map.Iter.{btree_map_turn, iter_end}
use Rattle.std.specs.Map.Iter.{deref_pair}
use Rattle.block_spec.specs.Bodies.{committed_in, slot_in}
use Rattle.core_sweeps.proofs.Commits.{below_here, body_still, goes_on, room_now, there_by}
use Rattle.core_sweeps.specs.CommitSteps.{IsStamped}
use Rattle.core_parts.specs.Hands.{Has, after}
use Rattle.core_sweeps.specs.SweepSteps.{body_changed, body_in}
use Rattle.event_spec.specs.Parts.{BodyOf}
use Rattle.isolation_laws.proofs.Rows.{place_cmp-total}
use Rattle.isolation_spec.specs.Contents.{PlaceMap}
use Rattle.undo_chain.specs.Lawful.{NoneStampedAbove}
use Rattle.core_sweeps.proofs.committing.stamp_all.Goals as goal

pub loop-row-init : goal.loop-row-init
loop-row-init c = λ reads old u. u

pub stamp_body-requires-clause-body : goal.stamp_body-requires-clause-body
stamp_body-requires-clause-body c =
    let turn = btree_map_turn deref_pair c.loop-row.yielded c.into_iter-row-iterator.result c.loop-row.row-iterator c.next.new.self c.next.result (c.in-Some.row, c.in-Some.place) c.loop-row.yielded_by c.in-Some.is c.next.ensures.steps
    place_cmp-total c.by_row.result.now (c.into_iter-row-iterator.ensures.into_iter_gives ∙ c.iter-row-items.ensures.rest) c.iter-row-items.ensures.ordered in
    let there = there_by c.args.own.now c.by_row.result.now.entries c.in-Some.row.now c.in-Some.place.now c.by_row.ensures turn.1 in
    subst (λ b. Has c.args.shape.now c.loop-row.held (BodyOf c.in-Some.row.now.table b)) (sym c.block.ensures.block)
    (body_still c.args.shape.now c.args.own.now c.requires.0 c.args.stamp c.args.number c.requires.1 c.loop-row.held (map deref_pair c.loop-row.yielded) (c.loop-row.invariant c.requires.0 c.requires.1 c.requires.2) c.in-Some.row.now.table c.in-Some.row.now.key c.in-Some.place.now there)

pub stamp_body-requires-clause-room : goal.stamp_body-requires-clause-room
stamp_body-requires-clause-room c = room_now c.args.shape.now c.args.own.now c.requires.0 c.args.stamp c.args.number c.requires.1 c.loop-row.held (map deref_pair c.loop-row.yielded) (c.loop-row.invariant c.requires.0 c.requires.1 c.requires.2)

pub stamp_body-requires-clause-stamps : goal.stamp_body-requires-clause-stamps
stamp_body-requires-clause-stamps c =
    let turn = btree_map_turn deref_pair c.loop-row.yielded c.into_iter-row-iterator.result c.loop-row.row-iterator c.next.new.self c.next.result (c.in-Some.row, c.in-Some.place) c.loop-row.yielded_by c.in-Some.is c.next.ensures.steps
    place_cmp-total c.by_row.result.now (c.into_iter-row-iterator.ensures.into_iter_gives ∙ c.iter-row-items.ensures.rest) c.iter-row-items.ensures.ordered in
    let there = there_by c.args.own.now c.by_row.result.now.entries c.in-Some.row.now c.in-Some.place.now c.by_row.ensures turn.1 in
    subst (λ b. (slot : ℕ) → NoneStampedAbove (slot_in (body_in c.args.shape.now c.loop-row.held c.in-Some.row.now.table b) slot).entries c.args.stamp) (sym c.block.ensures.block)
    (below_here c.args.shape.now c.args.own.now c.requires.0 c.args.stamp c.args.number c.requires.1 c.loop-row.held (map deref_pair c.loop-row.yielded) (c.loop-row.invariant c.requires.0 c.requires.1 c.requires.2) c.in-Some.row.now.table c.in-Some.row.now.key c.in-Some.place.now there)

pub loop-row-preserved : goal.loop-row-preserved
loop-row-preserved c = λ reads old u.
    let turn = btree_map_turn deref_pair c.loop-row.yielded c.into_iter-row-iterator.result c.loop-row.row-iterator c.next.new.self c.next.result (c.in-Some.row, c.in-Some.place) c.loop-row.yielded_by c.in-Some.is c.next.ensures.steps
    place_cmp-total c.by_row.result.now (c.into_iter-row-iterator.ensures.into_iter_gives ∙ c.iter-row-items.ensures.rest) c.iter-row-items.ensures.ordered in
    let there = there_by c.args.own.now c.by_row.result.now.entries c.in-Some.row.now c.in-Some.place.now c.by_row.ensures turn.1 in
    subst (λ (done : PlaceMap ℕ). IsStamped c.args.shape.now c.args.own.now reads c.args.stamp c.args.number old c.stamp_body.new.held done) (sym (map-append deref_pair c.loop-row.yielded ((c.in-Some.row, c.in-Some.place) ∷ [])))
    (goes_on c.args.shape.now c.args.own.now reads c.args.stamp c.args.number old c.loop-row.held (map deref_pair c.loop-row.yielded) (c.loop-row.invariant reads old u) c.in-Some.row.now.table c.in-Some.row.now.key c.in-Some.place.now there c.stamp_body.new.held
    (c.stamp_body.ensures ∙ ap (λ b. after c.args.shape.now (body_changed c.in-Some.row.now.table b (committed_in c.args.own.now.session c.args.stamp c.args.number)) c.loop-row.held) c.block.ensures.block))

pub returns : goal.returns
returns c = λ reads old u.
    let all = iter_end deref_pair c.by_row.result.now.entries c.loop-row.yielded c.into_iter-row-iterator.result c.loop-row.row-iterator c.next.new.self c.next.result
    (c.into_iter-row-iterator.ensures.into_iter_gives ∙ c.iter-row-items.ensures.rest) c.loop-row.yielded_by c.in-None.is c.next.ensures.steps in
    subst (λ (done : PlaceMap ℕ). IsStamped c.args.shape.now c.args.own.now reads c.args.stamp c.args.number old c.loop-row.held done) (all.0 ∙ c.by_row.ensures) (c.loop-row.invariant reads old u)
