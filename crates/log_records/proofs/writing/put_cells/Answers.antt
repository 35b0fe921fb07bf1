use Rattle.std.proofs.Common.{◌<◌, ◌^◌, length, subst, sym}
use Rattle.cell_model.specs.declared.cell.Cell.{Cell}
use Rattle.log_spec.specs.LogText.{cell_text}
use Rattle.log_records.proofs.Written.{one_short}
use Rattle.log_records.proofs.writing.put_cells.Goals as goal

pub put_cell-requires : goal.put_cell-requires
put_cell-requires c =
    subst (λ (x : Cell). length (cell_text x) < 2 ^ 32) (sym c.cell-item.is)
    (one_short cell_text c.args.cells.now c.loop-cell.cell-index c.cell-item.result (2 ^ 32) c.loop-cell-test.true c.requires)
