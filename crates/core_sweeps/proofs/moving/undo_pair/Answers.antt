use Rattle.std.proofs.Common.{◌≡◌, ℤ, ap, ◌∙◌, sym, subst, rules, to_z, of_z, w64}
use Rattle.std.proofs.lemmas.Int.{to_z-of_z}
use Rattle.block_layout.specs.Place.{block_of, slot_of}
use Rattle.block_spec.specs.Bodies.{taken_back_in}
use Rattle.core_sweeps.proofs.Halves.{entry_still, undone_by}
use Rattle.core_parts.specs.Hands.{Has, after}
use Rattle.core_sweeps.proofs.Handing.{has_still, room_still}
use Rattle.core_sweeps.specs.SweepSteps.{body_changed, shard_changed}
use Rattle.event_spec.specs.Parts.{ShardOf, BodyOf, shard_of}
use Rattle.core_parts.specs.Shards.{without_place}
use Rattle.core_sweeps.proofs.moving.undo_pair.Goals as goal

pub take_back-requires-2-clause-body : goal.take_back-requires-2-clause-body
take_back-requires-2-clause-body c = has_still c.args.shape.now (body_changed c.args.table (block_of c.args.pair.now.target) (taken_back_in (slot_of c.args.pair.now.target))) c.args.held.now c.take_back.new.held (BodyOf c.args.table (block_of c.args.pair.now.source)) c.take_back.ensures c.requires.source

pub take_back-requires-2-clause-room : goal.take_back-requires-2-clause-room
take_back-requires-2-clause-room c = room_still c.args.shape.now (body_changed c.args.table (block_of c.args.pair.now.target) (taken_back_in (slot_of c.args.pair.now.target))) c.args.held.now c.take_back.new.held c.take_back.ensures c.requires.room

pub take_back-requires-2-clause-entry : goal.take_back-requires-2-clause-entry
take_back-requires-2-clause-entry c = entry_still c.args.shape.now c.args.held.now c.take_back.new.held c.args.table c.args.pair.now c.requires.source c.requires.apart c.take_back.ensures c.requires.out

pub drop_candidate-requires-clause-shard : goal.drop_candidate-requires-clause-shard
drop_candidate-requires-clause-shard c =
    let key : to_z w64 (of_z w64 c.args.pair.now.key) ≡ c.args.pair.now.key = to_z-of_z w64 c.args.pair.now.key (search rules) in
    subst (λ (k : ℤ). Has c.args.shape.now c.take_back-2.new.held (ShardOf c.args.table (shard_of k))) (sym key)
    (has_still c.args.shape.now (body_changed c.args.table (block_of c.args.pair.now.source) (taken_back_in (slot_of c.args.pair.now.source))) c.take_back.new.held c.take_back-2.new.held (ShardOf c.args.table (shard_of c.args.pair.now.key)) c.take_back-2.ensures
    (has_still c.args.shape.now (body_changed c.args.table (block_of c.args.pair.now.target) (taken_back_in (slot_of c.args.pair.now.target))) c.args.held.now c.take_back.new.held (ShardOf c.args.table (shard_of c.args.pair.now.key)) c.take_back.ensures c.requires.shard))

pub drop_candidate-requires-clause-room : goal.drop_candidate-requires-clause-room
drop_candidate-requires-clause-room c =
    room_still c.args.shape.now (body_changed c.args.table (block_of c.args.pair.now.source) (taken_back_in (slot_of c.args.pair.now.source))) c.take_back.new.held c.take_back-2.new.held c.take_back-2.ensures
    (room_still c.args.shape.now (body_changed c.args.table (block_of c.args.pair.now.target) (taken_back_in (slot_of c.args.pair.now.target))) c.args.held.now c.take_back.new.held c.take_back.ensures c.requires.room)

pub returns : goal.returns
returns c =
    let key : to_z w64 (of_z w64 c.args.pair.now.key) ≡ c.args.pair.now.key = to_z-of_z w64 c.args.pair.now.key (search rules) in
    undone_by c.args.shape.now c.args.held.now c.take_back.new.held c.args.table c.args.pair.now c.requires.source c.requires.apart c.take_back.ensures c.take_back-2.new.held c.drop_candidate.new.held c.take_back-2.ensures
    (c.drop_candidate.ensures ∙ ap (λ (k : ℤ). after c.args.shape.now (shard_changed c.args.table (shard_of k) (without_place k c.args.pair.now.target)) c.take_back-2.new.held) key)
