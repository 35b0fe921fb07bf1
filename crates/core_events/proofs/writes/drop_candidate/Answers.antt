use Rattle.std.proofs.Common.{◌≡◌, ℕ, ℤ, rules, subst, to_z, of_z, w64}
use Rattle.std.proofs.Math.Facts.{to_z-of_z}
use Rattle.core_parts.proofs.Telling.{shard_there}
use Rattle.core_parts.specs.Hands.{after}
use Rattle.event_spec.specs.Parts.{ShardOf, shard_of}
use Rattle.core_parts.specs.Shards.{without_place}
use Rattle.core_events.specs.Writes.{of_shard}
use Rattle.core_events.proofs.Taking.{shard_made, still_room}
use Rattle.core_events.proofs.writes.drop_candidate.Goals as goal

pub lay_shard-requires-clause-table : goal.lay_shard-requires-clause-table
lay_shard-requires-clause-table c = (shard_there c.args.shape.now c.args.held.now c.args.table (shard_of c.args.key) c.requires.shard).0

pub lay_shard-requires-clause-room : goal.lay_shard-requires-clause-room
lay_shard-requires-clause-room c = still_room c.args.shape.now c.args.held.now c.take_shard-index.new.held (ShardOf c.args.table c.shard_of-number.result) c.requires.room c.take_shard-index.ensures.taken

pub returns : goal.returns
returns c =
    let key : to_z w64 (of_z w64 c.args.key) ≡ c.args.key = to_z-of_z {w = w64} (search rules) in
    let k = to_z w64 (of_z w64 c.args.key) in
    let sh = c.args.shape.now in let hand = c.args.held.now in let new = c.lay_shard.new.held in
    subst (λ (k : ℤ). new ≡ after sh (of_shard c.args.table (shard_of k) (without_place k c.args.place)) hand) key
    (subst (λ (n : ℕ). new ≡ after sh (of_shard c.args.table n (without_place k c.args.place)) hand) c.shard_of-number.ensures
    (shard_made sh hand c.take_shard-index.new.held new c.args.table c.shard_of-number.result c.take_shard-index.result.value c.drop_place.new.index c.deref_mut.result.now
    (without_place k c.args.place) c.take_shard-index.ensures.part c.take_shard-index.ensures.taken c.lay_shard.ensures c.deref_mut.ensures.value c.drop_place.ensures))
