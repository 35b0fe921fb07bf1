use Rattle.std.proofs.Common.{◌≡◌, drop}
use Rattle.cell_model.specs.Rows.{first_fault}
use Rattle.cell_model.proofs.schema.check_cells.Given as goal

-- the cells so far keep their columns' rules, so the first fault is that of the rest
abbrev pub invariant-loop-at : goal.invariant-loop-at
invariant-loop-at l = first_fault l.at (drop l.at l.columns) (drop l.at l.cells) ≡ first_fault 0 l.columns l.cells
