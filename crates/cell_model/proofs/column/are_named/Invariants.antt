use Rattle.std.proofs.Common.{take}
use Rattle.std.specs.List.{All}
use Rattle.cell_model.specs.Schemas.{IsName}
use Rattle.cell_model.proofs.column.are_named.Given as goal

abbrev pub invariant-loop-column : goal.invariant-loop-column
invariant-loop-column l = All IsName (take l.column-index l.columns)
