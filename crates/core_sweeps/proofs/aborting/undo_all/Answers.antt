use Rattle.std.proofs.Common.{◌≡◌, ℤ, ℕ, ◌∷◌, [], map, rules, ap, ◌∙◌, sym, subst, to_z, of_z, w64}
use Rattle.std.proofs.lemmas.Int.{to_z-of_z}
use Rattle.std.proofs.lemmas.List.{map-append}
use Rattle.std.proofs.lemmas.Map.Iter.{btree_map_turn, iter_end}
use Rattle.std.specs.Map.Iter.{deref_pair}
use Rattle.block_layout.specs.Place.{block_of}
use Rattle.block_spec.specs.Bodies.{rolled_back_in}
use Rattle.core_parts.specs.Hands.{Has, after}
use Rattle.core_sweeps.proofs.Aborts.{begins, goes_on, has_its_body, has_its_head, has_its_shard, room_now, still, there_by}
use Rattle.core_sweeps.specs.SweepSteps.{IsUndone, body_in, undone}
use Rattle.event_spec.specs.Parts.{HeadOf, ShardOf, BodyOf, shard_of}
use Rattle.isolation_laws.proofs.Rows.{place_cmp-total}
use Rattle.isolation_spec.specs.Contents.{PlaceMap}
use Rattle.core_sweeps.proofs.aborting.undo_all.Goals as goal

pub loop-row-init : goal.loop-row-init
loop-row-init c = begins c.args.shape.now c.args.own.now c.args.held.now c.requires

pub undo-requires-clause-head : goal.undo-requires-clause-head
undo-requires-clause-head c =
    let turn = btree_map_turn deref_pair c.loop-row.yielded c.into_iter-row-iterator.result c.loop-row.row-iterator c.next.new.self c.next.result (c.in-Some.row, c.in-Some.place) c.loop-row.yielded_by c.in-Some.is c.next.ensures.steps
    place_cmp-total c.by_row.result.now (c.into_iter-row-iterator.ensures.into_iter_gives ∙ c.iter-row-items.ensures.rest) c.iter-row-items.ensures.ordered in
    let there = there_by c.args.own.now c.by_row.result.now.entries c.in-Some.row.now c.in-Some.place.now c.by_row.ensures turn.1 in
    still c.args.shape.now c.args.own.now c.args.held.now c.loop-row.held (map deref_pair c.loop-row.yielded) c.loop-row.invariant (HeadOf c.in-Some.row.now.table)
    (has_its_head c.args.shape.now c.args.own.now c.args.held.now c.loop-row.invariant.may c.in-Some.row.now.table c.in-Some.row.now.key c.in-Some.place.now there)

pub undo-requires-clause-shard : goal.undo-requires-clause-shard
undo-requires-clause-shard c =
    let turn = btree_map_turn deref_pair c.loop-row.yielded c.into_iter-row-iterator.result c.loop-row.row-iterator c.next.new.self c.next.result (c.in-Some.row, c.in-Some.place) c.loop-row.yielded_by c.in-Some.is c.next.ensures.steps
    place_cmp-total c.by_row.result.now (c.into_iter-row-iterator.ensures.into_iter_gives ∙ c.iter-row-items.ensures.rest) c.iter-row-items.ensures.ordered in
    let there = there_by c.args.own.now c.by_row.result.now.entries c.in-Some.row.now c.in-Some.place.now c.by_row.ensures turn.1 in
    let key : to_z w64 (of_z w64 c.in-Some.row.now.key) ≡ c.in-Some.row.now.key = to_z-of_z w64 c.in-Some.row.now.key (search rules) in
    subst (λ (k : ℤ). Has c.args.shape.now c.loop-row.held (ShardOf c.in-Some.row.now.table (shard_of k))) (sym key)
    (still c.args.shape.now c.args.own.now c.args.held.now c.loop-row.held (map deref_pair c.loop-row.yielded) c.loop-row.invariant (ShardOf c.in-Some.row.now.table (shard_of c.in-Some.row.now.key))
    (has_its_shard c.args.shape.now c.args.own.now c.args.held.now c.loop-row.invariant.may c.in-Some.row.now.table c.in-Some.row.now.key c.in-Some.place.now there))

pub undo-requires-clause-body : goal.undo-requires-clause-body
undo-requires-clause-body c =
    let turn = btree_map_turn deref_pair c.loop-row.yielded c.into_iter-row-iterator.result c.loop-row.row-iterator c.next.new.self c.next.result (c.in-Some.row, c.in-Some.place) c.loop-row.yielded_by c.in-Some.is c.next.ensures.steps
    place_cmp-total c.by_row.result.now (c.into_iter-row-iterator.ensures.into_iter_gives ∙ c.iter-row-items.ensures.rest) c.iter-row-items.ensures.ordered in
    let there = there_by c.args.own.now c.by_row.result.now.entries c.in-Some.row.now c.in-Some.place.now c.by_row.ensures turn.1 in
    still c.args.shape.now c.args.own.now c.args.held.now c.loop-row.held (map deref_pair c.loop-row.yielded) c.loop-row.invariant (BodyOf c.in-Some.row.now.table (block_of c.in-Some.place.now))
    (has_its_body c.args.shape.now c.args.own.now c.args.held.now c.loop-row.invariant.may c.in-Some.row.now.table c.in-Some.row.now.key c.in-Some.place.now there)

pub undo-requires-clause-room : goal.undo-requires-clause-room
undo-requires-clause-room c = room_now c.args.shape.now c.args.own.now c.args.held.now c.loop-row.held (map deref_pair c.loop-row.yielded) c.loop-row.invariant

pub loop-row-preserved : goal.loop-row-preserved
loop-row-preserved c =
    let turn = btree_map_turn deref_pair c.loop-row.yielded c.into_iter-row-iterator.result c.loop-row.row-iterator c.next.new.self c.next.result (c.in-Some.row, c.in-Some.place) c.loop-row.yielded_by c.in-Some.is c.next.ensures.steps
    place_cmp-total c.by_row.result.now (c.into_iter-row-iterator.ensures.into_iter_gives ∙ c.iter-row-items.ensures.rest) c.iter-row-items.ensures.ordered in
    let there = there_by c.args.own.now c.by_row.result.now.entries c.in-Some.row.now c.in-Some.place.now c.by_row.ensures turn.1 in
    let key : to_z w64 (of_z w64 c.in-Some.row.now.key) ≡ c.in-Some.row.now.key = to_z-of_z w64 c.in-Some.row.now.key (search rules) in
    subst (λ (done : PlaceMap ℕ). IsUndone c.args.shape.now c.args.own.now c.args.held.now c.undo.new.held done) (sym (map-append deref_pair c.loop-row.yielded ((c.in-Some.row, c.in-Some.place) ∷ [])))
    (goes_on c.args.shape.now c.args.own.now c.args.held.now c.loop-row.held (map deref_pair c.loop-row.yielded) c.loop-row.invariant c.undo.new.held c.in-Some.row.now.table c.in-Some.row.now.key c.in-Some.place.now there
    (c.undo.ensures
    ∙ ap (λ (k : ℤ). after c.args.shape.now (undone c.in-Some.row.now.table k c.in-Some.place.now c.args.own.now.session (rolled_back_in c.args.own.now.session (body_in c.args.shape.now c.loop-row.held c.in-Some.row.now.table (block_of c.in-Some.place.now)))) c.loop-row.held) key))

pub returns : goal.returns
returns c =
    let all = iter_end deref_pair c.by_row.result.now.entries c.loop-row.yielded c.into_iter-row-iterator.result c.loop-row.row-iterator c.next.new.self c.next.result
    (c.into_iter-row-iterator.ensures.into_iter_gives ∙ c.iter-row-items.ensures.rest) c.loop-row.yielded_by c.in-None.is c.next.ensures.steps in
    subst (λ (done : PlaceMap ℕ). IsUndone c.args.shape.now c.args.own.now c.args.held.now c.loop-row.held done) (all.0 ∙ c.by_row.ensures) c.loop-row.invariant
