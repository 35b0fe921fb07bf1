use Rattle.std.proofs.Common.{◌≤◌, List, length, take, ap, ◌∙◌, arith}
use Rattle.std.proofs.lemmas.List.{length-take-le}
use Rattle.std.proofs.lemmas.List.Sums.{count_by-le-length}
use Rattle.cell_model.specs.declared.cell.Cell.{Cell}
use Rattle.cell_model.specs.Values.{is_null}
use Rattle.arrow_spec.specs.Arrays.{null_count}
use Rattle.block_columns.proofs.Rowed.{cells_of_rows}
use Rattle.block_columns.proofs.columns.Columns.nulls.Goals as goal

pub returns-clause-count : goal.returns-clause-count
returns-clause-count c =
    let many : c.args.n ≤ length c.column.result.now.cells = omega (arith, c.requires.room, c.column.ensures.room) in
    let some : c.args.n ≤ length c.args.self.now.rows = omega (arith, c.requires.room, c.room-room.ensures.room, c.room-room.ensures.within) in
    c.nulls.ensures
    ∙ ap (λ (cells : List Cell). null_count cells)
    (cells_of_rows c.column.result.now.cells c.args.self.now.rows c.args.column c.args.n many some c.column.ensures.cells)

pub returns-clause-few : goal.returns-clause-few
returns-clause-few c =
    let cells : List Cell = take c.args.n c.column.result.now.cells in
    let some : c.args.n ≤ length c.column.result.now.cells = omega (arith, c.requires.room, c.column.ensures.room) in
    omega (arith, c.nulls.ensures, count_by-le-length is_null cells, length-take-le c.args.n c.column.result.now.cells some)
