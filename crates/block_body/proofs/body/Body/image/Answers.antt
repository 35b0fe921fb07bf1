use Rattle.std.proofs.Common.{◌≡◌, ◌∙◌, List, Option, map, ap, sym}
use Rattle.cell_model.specs.declared.column.Column.{Column}
use Rattle.block_spec.specs.declared.phase.Phase.{Phase}
use Rattle.block_spec.specs.declared.phase.Phase.TheVariants.{Imaged}
use Rattle.block_spec.specs.Slots.{Row, Slot}
use Rattle.block_spec.specs.Bodies.{Body as BodyValue, imaged}
use Rattle.block_body.specs.Rows.{RowsValue}
use Rattle.block_body.specs.Chains.{entries_at}
use Rattle.block_body.specs.Slots.{slots_from}
use Rattle.block_body.specs.Bodies.{body_value}
use Rattle.block_body.proofs.Slots.{slots-rows}
use Rattle.block_body.proofs.body.Body.image.Goals as goal

pub freeze-requires-clause-rows : goal.freeze-requires-clause-rows
freeze-requires-clause-rows c =
    let i = c.self.inside in
    c.requires.image.slots_are
    ∙ ap (λ (b : BodyValue). map (λ (slot : Slot). slot.row) b.slots) (sym c.self.view_is)
    ∙ slots-rows (entries_at i.chains.entries) 0 i.rows.rows

pub returns-in-Sealed-clause-ok : goal.returns-in-Sealed-clause-ok
returns-in-Sealed-clause-ok c =
    let i = c.self.inside in
    let slots : c.args.image.slots ≡ i.rows.rows =
    c.requires.image.slots_are
    ∙ ap (λ (b : BodyValue). map (λ (slot : Slot). slot.row) b.slots) (sym c.self.view_is)
    ∙ slots-rows (entries_at i.chains.entries) 0 i.rows.rows in
    let columns : c.args.image.columns ≡ i.rows.columns = c.requires.image.columns_are ∙ ap (λ (b : BodyValue). b.columns) (sym c.self.view_is) in
    let B : BodyValue = body_value i.rows i.chains.entries (Imaged c.in-Sealed.stamp) i.cooling i.rounds i.last in
    rw (← c.self.view_is)
    (ap (λ (rows : RowsValue). body_value rows i.chains.entries (Imaged c.in-Sealed.stamp) i.cooling i.rounds i.last) c.in_ok-freeze.ensures.ok
    ∙ ap (λ (cs : List Column). record B { columns = cs; slots = slots_from (entries_at i.chains.entries) 0 c.args.image.slots }) columns
    ∙ ap (λ (l : List (Option Row)). record B { slots = slots_from (entries_at i.chains.entries) 0 l }) slots
    ∙ ap (λ (p : Phase). imaged (body_value i.rows i.chains.entries p i.cooling i.rounds i.last)) (sym c.in-Sealed.is))
