use Rattle.std.proofs.Common.{◌≡◌, List, take}
use Rattle.cell_model.specs.declared.cell.Cell.{Cell}
use Rattle.cell_model.specs.declared.column.Column.{Column}
use Rattle.arrow_spec.specs.DictBatches.{of_columns}
use Rattle.dict_gather.specs.Encoded.{batch_with, encoded_column}
use Rattle.dict_gather.proofs.gather.in_turn.Given as goal

abbrev pub invariant-loop-at : goal.invariant-loop-at
invariant-loop-at l =
    (columns : List Column) (rows : List (List Cell)) → l.batch ≡ batch_with columns rows
    → l.encoded.items ≡ take l.at (of_columns encoded_column columns rows)
