use Rattle.std.proofs.Common.{None, to_z, of_z, w64}
use Rattle.std.proofs.Math.Facts.{to_z-of_z}
use Rattle.core_sweeps.proofs.Halves.{added_back, shard_as_was}
use Rattle.core_parts.proofs.Telling.{shard_there}
use Rattle.core_sweeps.proofs.Handing.{room_taken}
use Rattle.event_spec.specs.Parts.{ShardOf, shard_of}
use Rattle.core_sweeps.proofs.halving.add_candidate.Goals as goal

pub lay_shard-requires-clause-table : goal.lay_shard-requires-clause-table
lay_shard-requires-clause-table c = (shard_there c.args.shape.now c.args.held.now c.args.table (shard_of c.args.key) c.requires.shard).0

pub lay_shard-requires-clause-room : goal.lay_shard-requires-clause-room
lay_shard-requires-clause-room c = room_taken c.args.shape.now c.args.held.now c.take_shard-index.new.held (ShardOf c.args.table c.shard_of-shard.result) None c.take_shard-index.ensures.taken c.requires.room

pub returns-in-Ok-clause-ok : goal.returns-in-Ok-clause-ok
returns-in-Ok-clause-ok c =
    added_back c.args.shape.now c.args.table c.shard_of-shard.result c.args.key (to_z w64 (of_z w64 c.args.key)) c.args.place c.args.held.now c.take_shard-index.new.held c.lay_shard.new.held
    c.take_shard-index.result.value c.deref_mut.result.now c.add_place-added.new.index (to_z-of_z c.ranges.key) c.shard_of-shard.ensures
    c.take_shard-index.ensures.part c.take_shard-index.ensures.taken c.deref_mut.ensures.value c.in-Ok.ensures.ok c.lay_shard.ensures

pub returns-in-Err-clause-err : goal.returns-in-Err-clause-err
returns-in-Err-clause-err c =
    shard_as_was c.args.shape.now c.args.table c.shard_of-shard.result c.args.held.now c.take_shard-index.new.held c.lay_shard.new.held
    c.take_shard-index.result.value c.deref_mut.result.now c.add_place-added.new.index
    c.take_shard-index.ensures.part c.take_shard-index.ensures.taken c.deref_mut.ensures.value c.in-Err.ensures.err c.lay_shard.ensures
