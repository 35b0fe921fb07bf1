use Rattle.std.proofs.Common.{◌≡◌, ℤ, ℕ, Option, None, Some, rules, ap, ◌∙◌, sym, to_z, of_z, w64}
use Rattle.std.proofs.lemmas.Int.{to_z-of_z}
use Rattle.block_body.specs.Changes.{key_left}
use Rattle.block_spec.specs.Bodies.{Body, slot_in}
use Rattle.core_parts.proofs.Changing.{after_nothing}
use Rattle.core_parts.specs.Hands.{after}
use Rattle.core_sweeps.proofs.Handing.{body_is_in}
use Rattle.core_sweeps.specs.SweepSteps.{body_in, dropped_at, shard_changed}
use Rattle.event_spec.specs.Parts.{shard_of}
use Rattle.core_parts.specs.Shards.{without_place}
use Rattle.core_sweeps.proofs.pruning.drop_slot.Goals as goal

pub returns-in-Some : goal.returns-in-Some
returns-in-Some c =
    let key : to_z w64 (of_z w64 c.in-Some.key) ≡ c.in-Some.key = to_z-of_z w64 c.in-Some.key (search rules) in
    let told : key_left c.args.oldest (slot_in (body_in c.args.shape.now c.args.held.now c.args.table c.args.block) c.args.slot) ≡ Some c.in-Some.key =
    ap (λ (x : Body). key_left c.args.oldest (slot_in x c.args.slot)) (body_is_in c.args.shape.now c.args.held.now c.args.table c.args.block c.body.result.now c.body.ensures) ∙ sym c.key_left.ensures ∙ c.in-Some.is in
    c.drop_candidate.ensures
    ∙ ap (λ (k : ℤ). after c.args.shape.now (shard_changed c.args.table (shard_of k) (without_place k c.join.result)) c.args.held.now) key
    ∙ ap (λ (p : ℕ). after c.args.shape.now (shard_changed c.args.table (shard_of c.in-Some.key) (without_place c.in-Some.key p)) c.args.held.now) c.join.ensures.place
    ∙ sym (ap (λ (o : Option ℤ). after c.args.shape.now (dropped_at c.args.table c.args.block c.args.slot o) c.args.held.now) told)

pub returns-in_default : goal.returns-in_default
returns-in_default c =
    let told : key_left c.args.oldest (slot_in (body_in c.args.shape.now c.args.held.now c.args.table c.args.block) c.args.slot) ≡ None =
    ap (λ (x : Body). key_left c.args.oldest (slot_in x c.args.slot)) (body_is_in c.args.shape.now c.args.held.now c.args.table c.args.block c.body.result.now c.body.ensures) ∙ sym c.key_left.ensures ∙ c.in_default.is in
    sym (ap (λ (o : Option ℤ). after c.args.shape.now (dropped_at c.args.table c.args.block c.args.slot o) c.args.held.now) told ∙ after_nothing c.args.shape.now c.args.held.now)
