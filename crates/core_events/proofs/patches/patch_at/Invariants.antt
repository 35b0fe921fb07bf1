use Rattle.std.proofs.Common.{◌≡◌, ℕ, ◌+◌, ◌++◌, [], drop, get_or, length, None, unwrap_or}
use Rattle.std.specs.Vec.Iter.{into_iter_items}
use Rattle.block_columns.specs.Columns.{ColumnsValue}
use Rattle.block_spec.specs.Slots.{Row}
use Rattle.event_spec.specs.Judged.{differences}
use Rattle.core_events.proofs.patches.patch_at.Given as goal

-- the row of a slot, without a cell where there is none
abbrev pub standing : ColumnsValue → ℕ → Row
standing columns slot = unwrap_or (get_or columns.rows slot None) []

abbrev pub invariant-loop-cell : goal.invariant-loop-cell
invariant-loop-cell l = record {
  column : l.column + length (into_iter_items l.cell-iterator) ≡ length l.fn.new;
  made : l.assignments.items ++ differences l.column (drop l.column (standing l.fn.columns l.fn.slot)) (into_iter_items l.cell-iterator)
      ≡ differences 0 (standing l.fn.columns l.fn.slot) l.fn.new;
}
