use Rattle.std.proofs.Common.{◌∙◌, false, List, None, ap}
use Rattle.std.specs.Prelude.{replicate}
use Rattle.block_spec.specs.declared.phase.Phase.TheVariants.{Loose}
use Rattle.block_spec.specs.Fitting.{columns_of}
use Rattle.block_spec.specs.Slots.{Slot}
use Rattle.block_spec.specs.Bodies.{untouched}
use Rattle.block_body.specs.Rows.{RowsValue, own_rows}
use Rattle.block_body.specs.Chains.{Chains}
use Rattle.block_body.specs.Bodies.{body_value}
use Rattle.block_body.proofs.Bodies.{new_slots}
use Rattle.block_body.proofs.body.Body.new.Goals as goal

pub returns : goal.returns
returns c =
    ap (λ (rows : RowsValue). body_value rows c.new-2.result.entries Loose false 0 0) c.in_ok-new.ensures
    ∙ ap (λ (chains : Chains). body_value (own_rows (record { columns = columns_of c.args.schema.now; rows = replicate c.args.slots None; room = 0 })) chains Loose false 0 0) c.new-2.ensures.empty
    ∙ ap (λ (slots : List Slot). record (untouched c.args.schema.now c.args.slots) { slots = slots }) (new_slots c.args.slots 0)
