use Rattle.std.proofs.Common.{◌≡◌, take}
use Rattle.arrow_spec.specs.Batches.{arrays_of}
use Rattle.block_columns.specs.Images.{apart, image_with, rows_of}
use Rattle.ipc_message.proofs.lent.of_columns.Given as goal

abbrev pub invariant-loop-at : goal.invariant-loop-at
invariant-loop-at l = l.lent.items ≡ take l.at (arrays_of l.columns.columns (rows_of (image_with l.columns l.rows (apart l.buffers))))
