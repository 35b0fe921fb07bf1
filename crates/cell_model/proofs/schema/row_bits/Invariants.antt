use Rattle.std.proofs.Common.{◌≡◌, ◌+◌, ◌*◌, ◌≤◌, take}
use Rattle.std.specs.List.{sum_by}
use Rattle.cell_model.specs.Schemas.{bits_of}
use Rattle.cell_model.proofs.schema.row_bits.Given as goal

-- the bits of the columns so far, each of which takes at most 8,193
abbrev pub invariant-loop-column : goal.invariant-loop-column
invariant-loop-column l = (l.bits ≡ 1 + sum_by (λ column. 1 + bits_of column.kind) (take l.column-index l.columns)) × (l.bits ≤ 1 + 8193 * l.column-index)
