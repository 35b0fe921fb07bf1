use Rattle.std.proofs.Common.{◌≡◌, ℤ, ap, ◌∙◌, sym, subst, rules, to_z, of_z, w64}
use Rattle.std.proofs.lemmas.Int.{to_z-of_z}
use Rattle.block_layout.specs.Place.{block_of}
use Rattle.core_sweeps.proofs.Halves.{nearly_has, nearly_room, pair_ends, pair_fails, ready_still}
use Rattle.core_parts.specs.Hands.{Has, after}
use Rattle.core_sweeps.proofs.Handing.{has_still, room_still}
use Rattle.core_sweeps.specs.SweepSteps.{shard_changed}
use Rattle.event_spec.specs.Effects.{with_place}
use Rattle.event_spec.specs.Parts.{ShardOf, shard_of}
use Rattle.core_parts.specs.Shards.{without_place}
use Rattle.core_sweeps.proofs.moving.move_pair.Goals as goal

pub move_row-requires : goal.move_row-requires
move_row-requires c =
    let key : to_z w64 (of_z w64 c.args.pair.now.key) ≡ c.args.pair.now.key = to_z-of_z w64 c.args.pair.now.key (search rules) in
    ready_still c.args.shape.now c.args.held.now c.add_candidate.new.held c.args.table c.args.pair.now c.requires.ready (c.in_ok-add_candidate.ensures.ok ∙ ap (λ (k : ℤ). after c.args.shape.now (shard_changed c.args.table (shard_of k) (with_place k c.args.pair.now.target)) c.args.held.now) key)

pub drop_candidate-requires-clause-shard : goal.drop_candidate-requires-clause-shard
drop_candidate-requires-clause-shard c =
    let key : to_z w64 (of_z w64 c.args.pair.now.key) ≡ c.args.pair.now.key = to_z-of_z w64 c.args.pair.now.key (search rules) in
    subst (λ (k : ℤ). Has c.args.shape.now c.move_row.new.held (ShardOf c.args.table (shard_of k))) (sym key)
    (nearly_has c.args.shape.now c.args.table (block_of c.args.pair.now.source) c.add_candidate.new.held c.move_row.new.held c.in-Err.ensures.err (ShardOf c.args.table (shard_of c.args.pair.now.key))
    (has_still c.args.shape.now (shard_changed c.args.table (shard_of (to_z w64 (of_z w64 c.args.pair.now.key))) (with_place (to_z w64 (of_z w64 c.args.pair.now.key)) c.args.pair.now.target)) c.args.held.now c.add_candidate.new.held (ShardOf c.args.table (shard_of c.args.pair.now.key)) c.in_ok-add_candidate.ensures.ok c.requires.shard))

pub drop_candidate-requires-clause-room : goal.drop_candidate-requires-clause-room
drop_candidate-requires-clause-room c =
    nearly_room c.args.shape.now c.args.table (block_of c.args.pair.now.source) c.add_candidate.new.held c.move_row.new.held c.in-Err.ensures.err
    (room_still c.args.shape.now (shard_changed c.args.table (shard_of (to_z w64 (of_z w64 c.args.pair.now.key))) (with_place (to_z w64 (of_z w64 c.args.pair.now.key)) c.args.pair.now.target)) c.args.held.now c.add_candidate.new.held c.in_ok-add_candidate.ensures.ok c.requires.ready.room)

pub returns-in-Ok-clause-ok : goal.returns-in-Ok-clause-ok
returns-in-Ok-clause-ok c =
    let key : to_z w64 (of_z w64 c.args.pair.now.key) ≡ c.args.pair.now.key = to_z-of_z w64 c.args.pair.now.key (search rules) in
    pair_ends c.args.shape.now c.args.held.now c.add_candidate.new.held c.args.table c.args.pair.now c.requires.ready (c.in_ok-add_candidate.ensures.ok ∙ ap (λ (k : ℤ). after c.args.shape.now (shard_changed c.args.table (shard_of k) (with_place k c.args.pair.now.target)) c.args.held.now) key) c.move_row.new.held c.args.stamp c.in-Ok.ensures.ok

pub returns-in-Err-clause-err : goal.returns-in-Err-clause-err
returns-in-Err-clause-err c =
    let key : to_z w64 (of_z w64 c.args.pair.now.key) ≡ c.args.pair.now.key = to_z-of_z w64 c.args.pair.now.key (search rules) in
    pair_fails c.args.shape.now c.args.held.now c.add_candidate.new.held c.args.table c.args.pair.now c.requires.ready (c.in_ok-add_candidate.ensures.ok ∙ ap (λ (k : ℤ). after c.args.shape.now (shard_changed c.args.table (shard_of k) (with_place k c.args.pair.now.target)) c.args.held.now) key) c.requires.holds c.requires.new c.move_row.new.held c.drop_candidate.new.held c.in-Err.ensures.err
    (c.drop_candidate.ensures ∙ ap (λ (k : ℤ). after c.args.shape.now (shard_changed c.args.table (shard_of k) (without_place k c.args.pair.now.target)) c.move_row.new.held) key)
