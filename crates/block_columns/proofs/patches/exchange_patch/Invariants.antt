use Rattle.std.proofs.Common.{◌≡◌, ◌≤◌, ◌+◌, ◌-◌, ◌++◌, take, drop, map, length, vec_len, vec_capacity}
use Rattle.cell_model.specs.declared.cell.Cell.TheVariants.{Null}
use Rattle.block_spec.specs.declared.patch.Assignment.{Assignment}
use Rattle.block_spec.specs.Slots.{patched, columns_before}
use Rattle.block_columns.specs.Columns.{cells_at, with_row}
use Rattle.block_columns.proofs.patches.exchange_patch.Given as goal

abbrev pub invariant-loop-i : goal.invariant-loop-i
invariant-loop-i l = record {
  laid : l.columns ≡ with_row l.at l.initial.columns (patched (cells_at l.at l.initial.columns) (take l.i l.initial.patch));
  left : l.patch ≡ map (λ (a : Assignment). let r : Assignment = record { column = a.column; cell = Null } in r) (take l.i l.initial.patch) ++ drop l.i l.initial.patch;
  before : l.before.items ≡ columns_before (cells_at l.at l.initial.columns) (take l.i l.initial.patch);
  room : vec_len l.before + (length l.initial.patch - l.i) ≤ vec_capacity l.before;
}
