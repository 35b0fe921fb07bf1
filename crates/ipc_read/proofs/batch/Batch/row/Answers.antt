use Rattle.std.proofs.Common.{◌<◌, ap, ◌∙◌}
use Rattle.ipc_read.specs.Batches.{BatchRead}
use Rattle.ipc_read.specs.Batches.{have_slot}
use Rattle.ipc_read.proofs.BatchLemmas.{row_at_slot, slot_in_room, fewer}
use Rattle.ipc_read.proofs.batch.Batch.row.Goals as goal

pub row_of-requires : goal.row_of-requires
row_of-requires c =
    let rows = c.self.inside.rows in
    let views = c.self.inside.views.items in
    let lt : c.args.i < rows = fewer rows c.args.i views _ (ap (λ (b : BatchRead). b.rows) c.self.view_is) c.requires in
    ap (have_slot c.args.i) c.deref.ensures.value ∙ slot_in_room rows c.args.i lt views c.self.invariant

pub returns : goal.returns
returns c =
    let rows = c.self.inside.rows in
    let views = c.self.inside.views.items in
    let lt : c.args.i < rows = fewer rows c.args.i views _ (ap (λ (b : BatchRead). b.rows) c.self.view_is) c.requires in
    row_at_slot rows c.args.i lt views _ (ap (λ (b : BatchRead). b.rows) c.self.view_is) _ c.deref.ensures.value c.row_of.result c.row_of.ensures
