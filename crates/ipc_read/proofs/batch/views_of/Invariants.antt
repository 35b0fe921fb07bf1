use Rattle.std.proofs.Common.{◌≡◌, true, drop, map, length}
use Rattle.stream_spec.specs.Columns.{buffer_count, columns_of}
use Rattle.ipc_read.specs.Batches.{have_room}
use Rattle.ipc_read.specs.Fields.{cells_told}
use Rattle.ipc_read.proofs.BatchLemmas.{behind}
use Rattle.ipc_read.proofs.batch.views_of.Given as goal

-- the columns so far, and then those that are left with the buffers that are left
abbrev pub invariant-loop-i : goal.invariant-loop-i
invariant-loop-i l = record {
  count : length l.left ≡ buffer_count (drop l.i l.fields);
  room : have_room l.rows l.views.items ≡ true;
  each : length l.views.items ≡ l.i;
  so_far : columns_of l.body l.rows l.dictionaries l.fields l.nodes l.buffers ≡ behind (map (cells_told l.rows) l.views.items) (columns_of l.body l.rows l.dictionaries (drop l.i l.fields) (drop l.i l.nodes) l.left);
}
