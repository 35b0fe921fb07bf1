use Rattle.std.proofs.Common.{◌≡◌, List, ◌++◌, drop}
use Rattle.cell_model.specs.declared.cell.Cell.{Cell}
use Rattle.dict_gather.specs.Columns.{HasCells}
use Rattle.dict_gather.specs.Places.{placed_from}
use Rattle.dict_gather.proofs.slots.placed.Given as goal

abbrev pub invariant-loop-slot : goal.invariant-loop-slot
invariant-loop-slot l =
    (cells : List Cell) → HasCells cells l.column
    → l.placed.items ++ placed_from l.slot (drop l.slot cells) ≡ placed_from 0 cells
