use Rattle.std.proofs.Common.{ℤ, ap, ◌∙◌}
use Rattle.std.proofs.Math.Facts.{to_z-of_z}
use Rattle.block_layout.specs.Place.{block_of, slot_of}
use Rattle.block_spec.specs.Bodies.{slot_in}
use Rattle.block_spec.specs.Slots.{is_bare}
use Rattle.core_parts.specs.Hands.{after}
use Rattle.core_sweeps.proofs.Handing.{bare_told, lost_if, lost_not}
use Rattle.core_sweeps.specs.SweepSteps.{body_in, shard_changed}
use Rattle.event_spec.specs.Parts.{shard_of}
use Rattle.core_parts.specs.Shards.{without_place}
use Rattle.core_sweeps.proofs.sweeping.drop_bare.Goals as goal

pub returns-then-bare : goal.returns-then-bare
returns-then-bare c =
    lost_if c.args.shape.now c.args.table (shard_of c.args.key) c.args.key c.args.place
    (is_bare (slot_in (body_in c.args.shape.now c.args.held.now c.args.table (block_of c.args.place)) (slot_of c.args.place))) c.args.held.now c.drop_candidate.new.held
    (bare_told c.args.shape.now c.args.held.now c.args.table c.block.result (block_of c.args.place) c.slot.result (slot_of c.args.place) c.body.result.now c.bare.result c.body.ensures c.block.ensures.block c.slot.ensures.slot c.bare.ensures ∙ c.if-bare.true)
    (c.drop_candidate.ensures ∙ ap (λ (k : ℤ). after c.args.shape.now (shard_changed c.args.table (shard_of k) (without_place k c.args.place)) c.args.held.now) (to_z-of_z c.ranges.key))

pub returns-else-bare : goal.returns-else-bare
returns-else-bare c =
    lost_not c.args.shape.now c.args.table (shard_of c.args.key) c.args.key c.args.place
    (is_bare (slot_in (body_in c.args.shape.now c.args.held.now c.args.table (block_of c.args.place)) (slot_of c.args.place))) c.args.held.now
    (bare_told c.args.shape.now c.args.held.now c.args.table c.block.result (block_of c.args.place) c.slot.result (slot_of c.args.place) c.body.result.now c.bare.result c.body.ensures c.block.ensures.block c.slot.ensures.slot c.bare.ensures ∙ c.if-bare.false)
