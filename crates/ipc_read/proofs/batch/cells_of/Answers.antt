use Rattle.std.proofs.Common.{◌++◌, ◌∷◌, [], length, sym, ap, ◌∙◌, arith}
use Rattle.std.proofs.lemmas.List.FromFn.{map-range_with_len_more}
use Rattle.ipc_read.specs.Fields.{cell_told}
use Rattle.ipc_read.specs.Layouts.{values_in}
use Rattle.ipc_read.proofs.ViewLemmas.{room_at}
use Rattle.ipc_read.proofs.batch.cells_of.Goals as goal

pub cell_of-requires : goal.cell_of-requires
cell_of-requires c =
    room_at (values_in c.args.view.now.view.layout) c.loop-i.i c.args.count (length c.args.view.now.view.data.now)
    c.loop-i-test.true c.requires

pub loop-i-preserved : goal.loop-i-preserved
loop-i-preserved c =
    let view = c.args.view.now in
    c.in_ok-push.ensures.items
    ∙ (ap (λ cell. c.loop-i.cells.items ++ cell ∷ []) c.in_ok-cell_of.ensures
    ∙ (ap (λ cells. cells ++ cell_told view c.loop-i.i ∷ []) c.loop-i.invariant
    ∙ sym (map-range_with_len_more (cell_told view) 0 c.loop-i.i c.loop-i.i (omega arith))))
