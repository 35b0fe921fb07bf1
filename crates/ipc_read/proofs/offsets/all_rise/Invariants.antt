use Rattle.std.proofs.Common.{◌≡◌, true}
use Rattle.std.specs.List.{list_all, range_with_len}
use Rattle.cell_model.specs.Widths.{offset_width}
use Rattle.ipc_read.specs.Offsets.{rises}
use Rattle.ipc_read.proofs.offsets.all_rise.Given as goal

-- none fell so far
abbrev pub invariant-loop-i : goal.invariant-loop-i
invariant-loop-i l = list_all (rises (offset_width l.width) l.offsets) (range_with_len 0 l.i) ≡ true
