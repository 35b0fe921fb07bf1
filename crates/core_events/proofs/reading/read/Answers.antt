use Rattle.std.proofs.Common.{◌∙◌, Option, map, ap, is_some, sym, subst}
use Rattle.std.specs.Prelude.{IfSome}
use Rattle.block_body.specs.Frozen.{IsImageOf}
use Rattle.block_columns.specs.Images.{ImageValue}
use Rattle.block_spec.specs.Slots.{Slot}
use Rattle.core_events.proofs.Replying.{each_read, has_the_body, keys_are, replies_rows, replies_shared, shared_whole, slots_few}
use Rattle.core_events.proofs.reading.read.Goals as goal

pub body-body-requires : goal.body-body-requires
body-body-requires g c = has_the_body c.args.shape.now c.args.own.now c.args.table c.args.block c.args.held.now c.requires

pub new-requires : goal.new-requires
new-requires g c =
    let of = subst (λ (o : Option ImageValue). IfSome o (IsImageOf c.body-body.result.now.columns (map (λ (slot : Slot). slot.row) c.body-body.result.now.slots))) c.in-Some.is c.in_ok-shared.ensures.image in
    shared_whole c.args.shape.now c.args.own.now c.args.table c.args.block c.args.held.now c.requires c.body-body.result.now c.body-body.ensures
    c.in-Some.shared (sym c.in_ok-shared.ensures.imaged ∙ ap (λ (o : Option ImageValue). is_some o) c.in-Some.is) of

pub rows_in-requires-clause-few : goal.rows_in-requires-clause-few
rows_in-requires-clause-few g c = slots_few c.args.shape.now c.args.own.now c.args.table c.args.block c.args.held.now c.requires c.body-body.result.now c.body-body.ensures

pub rows_in-requires-clause-keys : goal.rows_in-requires-clause-keys
rows_in-requires-clause-keys g c =
    keys_are c.args.shape.now c.args.own.now c.args.table c.args.block c.args.held.now c.requires c.body-body.result.now c.body-body.ensures
    c.schema-schema.result.now c.schema-schema.ensures.columns c.schema-schema.ensures.schema

pub returns-in_err-rows-in-None-clause-steps : goal.returns-in_err-rows-in-None-clause-steps
returns-in_err-rows-in-None-clause-steps g c = λ s agrees.
    each_read c.args.shape.now c.args.own.now c.args.table c.args.block c.args.held.now c.requires c.body-body.result.now c.body-body.ensures
    s c.args.steps.now c.rows_in.new.steps agrees (sym c.in_ok-shared.ensures.imaged ∙ ap (λ (o : Option ImageValue). is_some o) c.in-None.is) c.rows_in.ensures.steps

pub returns-in-Some-clause-reply : goal.returns-in-Some-clause-reply
returns-in-Some-clause-reply g c =
    let of = subst (λ (o : Option ImageValue). IfSome o (IsImageOf c.body-body.result.now.columns (map (λ (slot : Slot). slot.row) c.body-body.result.now.slots))) c.in-Some.is c.in_ok-shared.ensures.image in
    replies_shared c.args.shape.now c.args.own.now c.args.table c.args.block c.args.held.now c.requires c.body-body.result.now c.body-body.ensures
    c.in-Some.shared c.new.result (sym c.in_ok-shared.ensures.imaged ∙ ap (λ (o : Option ImageValue). is_some o) c.in-Some.is) of c.new.ensures

pub returns-in_ok-rows-in-None-clause-reply : goal.returns-in_ok-rows-in-None-clause-reply
returns-in_ok-rows-in-None-clause-reply g c =
    replies_rows c.args.shape.now c.args.own.now c.args.table c.args.block c.args.held.now c.requires c.body-body.result.now c.body-body.ensures
    c.in_ok-rows-in-None.rows (sym c.in_ok-shared.ensures.imaged ∙ ap (λ (o : Option ImageValue). is_some o) c.in-None.is) c.in_ok-rows-in-None.ensures.rows

pub returns-in_ok-rows-in-None-clause-steps : goal.returns-in_ok-rows-in-None-clause-steps
returns-in_ok-rows-in-None-clause-steps g c = λ s agrees.
    each_read c.args.shape.now c.args.own.now c.args.table c.args.block c.args.held.now c.requires c.body-body.result.now c.body-body.ensures
    s c.args.steps.now c.rows_in.new.steps agrees (sym c.in_ok-shared.ensures.imaged ∙ ap (λ (o : Option ImageValue). is_some o) c.in-None.is) c.rows_in.ensures.steps
