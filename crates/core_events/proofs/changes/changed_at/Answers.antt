use Rattle.std.proofs.Common.{Option, [], refl, ap, ◌∙◌, sym}
use Rattle.std.specs.Prelude.{unwrap_or}
use Rattle.block_spec.specs.Slots.{Row}
use Rattle.event_spec.specs.Judged.{differences}
use Rattle.core_events.proofs.Places.{ok_more}
use Rattle.core_events.proofs.Changing.{row_told}
use Rattle.core_events.proofs.changes.changed_at.Goals as goal

pub returns-clause-patch : goal.returns-clause-patch
returns-clause-patch g c = ok_more c.patch_at.result _ _ c.patch_at.ensures (λ patch is s agrees.
    is ∙ ap (λ (o : Option Row). differences 0 (unwrap_or o []) c.args.new) (sym (row_told c.args.shape.now c.args.held.now s c.args.table c.args.place c.block.result c.slot.result c.body.result.now c.columns-columns.result.now.rows _ agrees c.block.ensures.block c.slot.ensures.slot c.body.ensures c.columns-columns.ensures.rows refl)))
