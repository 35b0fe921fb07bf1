use Rattle.std.proofs.Common.{ℤ, ℕ, ap, ◌∙◌, sym, subst, to_z, of_z, w64}
use Rattle.std.proofs.Math.Facts.{to_z-of_z}
use Rattle.block_layout.specs.Place.{block_of, slot_of}
use Rattle.block_spec.specs.Bodies.{is_empty, rolled_back_in, slot_in}
use Rattle.block_spec.specs.Slots.{is_bare}
use Rattle.core_parts.specs.Hands.{Has, after}
use Rattle.core_sweeps.proofs.Handing.{has_still, room_still, undone_by}
use Rattle.core_sweeps.specs.SweepSteps.{body_changed, body_in, head_changed, shard_changed, with_gain, without_bare}
use Rattle.event_spec.specs.Parts.{HeadOf, ShardOf, BodyOf, shard_of}
use Rattle.core_sweeps.proofs.aborting.undo.Goals as goal

pub drop_bare-requires-clause-body : goal.drop_bare-requires-clause-body
drop_bare-requires-clause-body c =
    has_still c.args.shape.now (body_changed c.args.table c.block.result (rolled_back_in c.args.session)) c.args.held.now c.roll_back.new.held (BodyOf c.args.table (block_of c.args.place)) c.roll_back.ensures c.requires.body

pub drop_bare-requires-clause-shard : goal.drop_bare-requires-clause-shard
drop_bare-requires-clause-shard c =
    subst (λ (k : ℤ). Has c.args.shape.now c.roll_back.new.held (ShardOf c.args.table (shard_of k))) (sym (to_z-of_z c.ranges.key))
    (has_still c.args.shape.now (body_changed c.args.table c.block.result (rolled_back_in c.args.session)) c.args.held.now c.roll_back.new.held (ShardOf c.args.table (shard_of c.args.key)) c.roll_back.ensures c.requires.shard)

pub drop_bare-requires-clause-room : goal.drop_bare-requires-clause-room
drop_bare-requires-clause-room c =
    room_still c.args.shape.now (body_changed c.args.table c.block.result (rolled_back_in c.args.session)) c.args.held.now c.roll_back.new.held c.roll_back.ensures c.requires.room

pub tell_empty-requires-clause-head : goal.tell_empty-requires-clause-head
tell_empty-requires-clause-head c =
    let k = to_z w64 (of_z w64 c.args.key) in
    has_still c.args.shape.now
    (shard_changed c.args.table (shard_of k) (without_bare (is_bare (slot_in (body_in c.args.shape.now c.roll_back.new.held c.args.table (block_of c.args.place)) (slot_of c.args.place))) k c.args.place))
    c.roll_back.new.held c.drop_bare.new.held (HeadOf c.args.table) c.drop_bare.ensures
    (has_still c.args.shape.now (body_changed c.args.table c.block.result (rolled_back_in c.args.session)) c.args.held.now c.roll_back.new.held (HeadOf c.args.table) c.roll_back.ensures c.requires.head)

pub tell_empty-requires-clause-body : goal.tell_empty-requires-clause-body
tell_empty-requires-clause-body c =
    let k = to_z w64 (of_z w64 c.args.key) in
    subst (λ (b : ℕ). Has c.args.shape.now c.drop_bare.new.held (BodyOf c.args.table b)) (sym c.block-2.ensures.block)
    (has_still c.args.shape.now
    (shard_changed c.args.table (shard_of k) (without_bare (is_bare (slot_in (body_in c.args.shape.now c.roll_back.new.held c.args.table (block_of c.args.place)) (slot_of c.args.place))) k c.args.place))
    c.roll_back.new.held c.drop_bare.new.held (BodyOf c.args.table (block_of c.args.place)) c.drop_bare.ensures
    (has_still c.args.shape.now (body_changed c.args.table c.block.result (rolled_back_in c.args.session)) c.args.held.now c.roll_back.new.held (BodyOf c.args.table (block_of c.args.place)) c.roll_back.ensures c.requires.body))

pub tell_empty-requires-clause-room : goal.tell_empty-requires-clause-room
tell_empty-requires-clause-room c =
    let k = to_z w64 (of_z w64 c.args.key) in
    room_still c.args.shape.now
    (shard_changed c.args.table (shard_of k) (without_bare (is_bare (slot_in (body_in c.args.shape.now c.roll_back.new.held c.args.table (block_of c.args.place)) (slot_of c.args.place))) k c.args.place))
    c.roll_back.new.held c.drop_bare.new.held c.drop_bare.ensures
    (room_still c.args.shape.now (body_changed c.args.table c.block.result (rolled_back_in c.args.session)) c.args.held.now c.roll_back.new.held c.roll_back.ensures c.requires.room)

pub returns : goal.returns
returns c =
    undone_by c.args.shape.now c.args.table c.args.key c.args.place c.args.session c.args.held.now c.roll_back.new.held c.drop_bare.new.held c.tell_empty.new.held c.requires.body
    (c.roll_back.ensures ∙ ap (λ (b : ℕ). after c.args.shape.now (body_changed c.args.table b (rolled_back_in c.args.session)) c.args.held.now) c.block.ensures.block)
    (c.drop_bare.ensures
    ∙ ap (λ (k : ℤ). after c.args.shape.now (shard_changed c.args.table (shard_of k) (without_bare (is_bare (slot_in (body_in c.args.shape.now c.roll_back.new.held c.args.table (block_of c.args.place)) (slot_of c.args.place))) k c.args.place)) c.roll_back.new.held) (to_z-of_z c.ranges.key))
    (c.tell_empty.ensures
    ∙ ap (λ (b : ℕ). after c.args.shape.now (head_changed c.args.table (with_gain (is_empty (body_in c.args.shape.now c.drop_bare.new.held c.args.table b)) b)) c.drop_bare.new.held) c.block-2.ensures.block)
