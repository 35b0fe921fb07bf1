use Rattle.std.proofs.Common.{◌<◌, ◌+◌, ◌^◌, ℕ, Option, None, Some, length, rules, ap, subst, arith}
use Rattle.block_body.specs.Changes.{IsNextVersioned}
use Rattle.block_spec.specs.Bodies.{Body}
use Rattle.cell_model.specs.Schemas.{IsSchema}
use Rattle.core_sweeps.proofs.Prunes.{begins, body_lent, goes_on, has_its_shard, has_the_body, key_there, room_now, slots_old, slots_small, still}
use Rattle.event_spec.specs.Parts.{BodyOf, ShardOf}
use Rattle.core_sweeps.proofs.pruning.drop_left.Goals as goal

pub loop-slot-init : goal.loop-slot-init
loop-slot-init c = begins c.args.shape.now c.args.table c.args.block c.args.oldest c.args.held.now c.requires

pub body-requires : goal.body-requires
body-requires c =
    still c.args.shape.now c.args.table c.args.block c.args.oldest c.loop-slot.from c.args.held.now c.loop-slot.held c.loop-slot.invariant (BodyOf c.args.table c.args.block)
    (has_the_body c.args.shape.now c.args.table c.args.block c.args.oldest c.args.held.now c.loop-slot.invariant.may)

pub drop_slot-requires-clause-shards : goal.drop_slot-requires-clause-shards
drop_slot-requires-clause-shards c = λ i small.
    still c.args.shape.now c.args.table c.args.block c.args.oldest c.loop-slot.from c.args.held.now c.loop-slot.held c.loop-slot.invariant (ShardOf c.args.table i)
    (has_its_shard c.args.shape.now c.args.table c.args.block c.args.oldest c.args.held.now c.loop-slot.invariant.may i small)

pub drop_slot-requires-clause-room : goal.drop_slot-requires-clause-room
drop_slot-requires-clause-room c = room_now c.args.shape.now c.args.table c.args.block c.args.oldest c.loop-slot.from c.args.held.now c.loop-slot.held c.loop-slot.invariant

pub drop_slot-requires-clause-slot : goal.drop_slot-requires-clause-slot
drop_slot-requires-clause-slot c =
    let body = body_lent c.args.shape.now c.args.table c.args.block c.args.oldest c.loop-slot.from c.args.held.now c.loop-slot.held c.loop-slot.invariant c.body.result.now c.body.ensures in
    let long = ap (λ (x : Body). length x.slots) body in
    let less = c.in-Some.ensures.1 in
    let most = slots_small c.args.shape.now c.args.table c.args.block c.args.oldest c.loop-slot.from c.args.held.now c.loop-slot.held c.loop-slot.invariant in
    omega (arith, long, less, most)

pub drop_slot-requires-clause-key : goal.drop_slot-requires-clause-key
drop_slot-requires-clause-key c =
    key_there c.args.shape.now c.args.table c.args.block c.args.oldest c.loop-slot.from c.args.held.now c.loop-slot.held c.loop-slot.invariant c.in-Some.slot
    (subst IsSchema c.schema.ensures.columns c.schema.ensures.schema)

pub overflow_add-from : goal.overflow_add-from
overflow_add-from c =
    let body = body_lent c.args.shape.now c.args.table c.args.block c.args.oldest c.loop-slot.from c.args.held.now c.loop-slot.held c.loop-slot.invariant c.body.result.now c.body.ensures in
    let long = ap (λ (x : Body). length x.slots) body in
    let less = c.in-Some.ensures.1 in
    let most = slots_small c.args.shape.now c.args.table c.args.block c.args.oldest c.loop-slot.from c.args.held.now c.loop-slot.held c.loop-slot.invariant in
    let small : c.in-Some.slot + 1 < 2 ^ 32 = omega (arith, long, less, most) in
    search (rules, small)

pub loop-slot-smaller : goal.loop-slot-smaller
loop-slot-smaller c =
    let body = body_lent c.args.shape.now c.args.table c.args.block c.args.oldest c.loop-slot.from c.args.held.now c.loop-slot.held c.loop-slot.invariant c.body.result.now c.body.ensures in
    let long = ap (λ (x : Body). length x.slots) body in
    let same = slots_old c.args.shape.now c.args.table c.args.block c.args.oldest c.loop-slot.from c.args.held.now c.loop-slot.held c.loop-slot.invariant in
    let le = c.in-Some.ensures.0 in
    let less = c.in-Some.ensures.1 in
    omega (arith, long, same, le, less)

pub loop-slot-preserved : goal.loop-slot-preserved
loop-slot-preserved c =
    let body = body_lent c.args.shape.now c.args.table c.args.block c.args.oldest c.loop-slot.from c.args.held.now c.loop-slot.held c.loop-slot.invariant c.body.result.now c.body.ensures in
    goes_on c.args.shape.now c.args.table c.args.block c.args.oldest c.loop-slot.from c.args.held.now c.loop-slot.held c.loop-slot.invariant c.drop_slot.new.held c.in-Some.slot
    (subst (λ (x : Body). IsNextVersioned x c.loop-slot.from (Some c.in-Some.slot)) body c.in-Some.ensures) c.drop_slot.ensures

pub returns : goal.returns
returns c =
    let body = body_lent c.args.shape.now c.args.table c.args.block c.args.oldest c.loop-slot.from c.args.held.now c.loop-slot.held c.loop-slot.invariant c.body.result.now c.body.ensures in record {
      from = c.loop-slot.from;
      dropped = c.loop-slot.invariant;
      none = subst (λ (x : Body). IsNextVersioned x c.loop-slot.from None) body (subst (λ (r : Option ℕ). IsNextVersioned c.body.result.now c.loop-slot.from r) c.in_default.is c.next_versioned.ensures);
    }
