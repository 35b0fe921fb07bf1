use Rattle.std.proofs.Common.{◌∙◌, Option, map, ap, is_some, sym, subst}
use Rattle.std.specs.Prelude.{IfSome}
use Rattle.block_body.specs.Frozen.{IsImageOf}
use Rattle.block_columns.specs.Images.{ImageValue}
use Rattle.block_spec.specs.Slots.{Slot}
use Rattle.core_events.proofs.Shares.{shares, shares_none, whole}
use Rattle.core_events.proofs.sharing.shared.Goals as goal

pub new-requires : goal.new-requires
new-requires c =
    let of = subst (λ (o : Option ImageValue). IfSome o (IsImageOf c.body-body.result.now.columns (map (λ (slot : Slot). slot.row) c.body-body.result.now.slots))) c.in-Some.is c.in_ok-shared.ensures.image in
    whole c.args.shape.now c.args.table c.args.block c.args.held.now c.requires.body c.body-body.result.now c.body-body.ensures c.requires.core.0 c.requires.core.1 c.requires.core.2
    c.in-Some.shared (sym c.in_ok-shared.ensures.imaged ∙ ap (λ (o : Option ImageValue). is_some o) c.in-Some.is) of

pub returns-in-Some : goal.returns-in-Some
returns-in-Some c = λ s holds agrees.
    let of = subst (λ (o : Option ImageValue). IfSome o (IsImageOf c.body-body.result.now.columns (map (λ (slot : Slot). slot.row) c.body-body.result.now.slots))) c.in-Some.is c.in_ok-shared.ensures.image in
    shares c.args.shape.now c.args.table c.args.block c.args.held.now c.requires.body c.body-body.result.now c.body-body.ensures s holds agrees
    c.in-Some.shared c.new.result (sym c.in_ok-shared.ensures.imaged ∙ ap (λ (o : Option ImageValue). is_some o) c.in-Some.is) of c.new.ensures

pub returns-in-None : goal.returns-in-None
returns-in-None c = λ s holds agrees.
    shares_none c.args.shape.now c.args.table c.args.block c.args.held.now c.requires.body c.body-body.result.now c.body-body.ensures s holds agrees
    (sym c.in_ok-shared.ensures.imaged ∙ ap (λ (o : Option ImageValue). is_some o) c.in-None.is)
