use Rattle.std.proofs.Common.{◌≡◌, ◌++◌, take}
use Rattle.std.specs.List.{flat_map}
use Rattle.log_spec.specs.LogText.{cell_text}
use Rattle.log_records.proofs.writing.put_cells.Given as goal

abbrev pub invariant-loop-cell : goal.invariant-loop-cell
invariant-loop-cell l = l.bytes.items ≡ l.fn.bytes.items ++ flat_map cell_text (take l.cell-index l.cells)
