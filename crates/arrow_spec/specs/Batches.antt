-- Rows as the columns of an Arrow record batch.
use Rattle.std.specs.Prelude.{ℕ, ◌+◌, List, [], ◌∷◌, map, length, ℤ, pos, flat_map}
use Rattle.std.specs.List.{enumerate_from, slice_index_or}
use Rattle.cell_model.specs.declared.cell.Cell.{Cell}
use Rattle.cell_model.specs.declared.cell.Cell.TheVariants.{Null}
use Rattle.cell_model.specs.declared.column.Column.{Column}
use Rattle.arrow_spec.specs.Arrays.{column_buffers, null_count}
use Rattle.arrow_spec.specs.Bytes.{padded}

-- A column of a batch: how many of its slots are null, and its buffers.
pub record Array : Type 0 where
  pub nulls : ℕ
  pub buffers : List (List ℕ)

-- A record batch: how many rows it has, a node (length, null count) for each column, where each
-- buffer lies (offset, length), and the body (Message.fbs, "RecordBatch", "FieldNode", "Buffer").
pub record Batch : Type 0 where
  pub rows : ℕ
  pub nodes : List (ℤ × ℤ)
  pub buffers : List (ℤ × ℤ)
  pub body : List ℕ

-- the cells of a column are the rows' cells at its place; a row that has none there counts as null
abbrev pub column_cells : ℕ → List (List Cell) → List Cell
column_cells place rows = map (λ row. slice_index_or row place Null) rows

-- one array for each column, in the order of the columns
abbrev pub arrays_of : List Column → List (List Cell) → List Array
arrays_of columns rows =
    map
    (λ (place, column). record {
      nulls = null_count (column_cells place rows);
      buffers = column_buffers column.kind (column_cells place rows);
    })
    (enumerate_from 0 columns)

-- Each buffer begins where the one before ended, padded to a multiple of 8; its length doesn't
-- count the padding.
abbrev pub buffer_places : ℕ → List (List ℕ) → List (ℤ × ℤ)
buffer_places from [] = []
buffer_places from (buffer ∷ buffers) = (pos from, pos (length buffer)) ∷ buffer_places
    (from + length (padded buffer)) buffers

-- A batch of so many rows with these arrays: column after column, one node each, and the body is
-- all the buffers, each padded (IPC format, "RecordBatch message").
abbrev pub batch_of_arrays : ℕ → List Array → Batch
batch_of_arrays rows arrays =
    let buffers = flat_map (λ array. array.buffers) arrays in
    record {
      rows = rows;
      nodes = map (λ array. (pos rows, pos array.nulls)) arrays;
      buffers = buffer_places 0 buffers;
      body = flat_map padded buffers;
    }

-- The batch of these rows.
abbrev pub batch_of : List Column → List (List Cell) → Batch
batch_of columns rows = batch_of_arrays (length rows) (arrays_of columns rows)
