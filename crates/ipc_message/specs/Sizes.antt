-- Which buffers are so small that their message is put together.
use Rattle.std.specs.Prelude.{ℕ, ◌≤◌, List, length, All}
use Rattle.cell_model.specs.declared.column.Column.{Column}
use Rattle.cell_model.specs.declared.schema.TheConstants.{MOST_COLUMNS}
use Rattle.ipc_message.specs.declared.whole.TheConstants.{SMALL}

-- each buffer has so few bytes that to copy them costs less than a call of the sink
abbrev pub AreSmall : List (List ℕ) → Type 0
AreSmall buffers = All (λ buffer. length buffer ≤ SMALL) buffers

-- there are no more columns than a table's, and the buffers of each are small
abbrev pub IsSmallBatch : List Column → List (List (List ℕ)) → Type 0
IsSmallBatch columns buffers = (length columns ≤ MOST_COLUMNS) × All AreSmall buffers
