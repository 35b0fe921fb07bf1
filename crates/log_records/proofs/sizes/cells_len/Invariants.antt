use Rattle.std.proofs.Common.{◌≡◌, ◌-◌, ◌^◌, length, min, take}
use Rattle.std.specs.List.{flat_map}
use Rattle.log_spec.specs.LogText.{cell_text}
use Rattle.log_records.proofs.sizes.cells_len.Given as goal

abbrev pub invariant-loop-cell : goal.invariant-loop-cell
invariant-loop-cell l = l.len ≡ min (length (flat_map cell_text (take l.cell-index l.cells))) (2 ^ 64 - 1)
