use Rattle.log_records.proofs.Rows.{RowSoFar}
use Rattle.log_records.proofs.reading_rows.read_row.Given as goal

abbrev pub invariant-loop-column : goal.invariant-loop-column
invariant-loop-column l = RowSoFar l.attributes l.column-index l.place.key l.cells.items l.initial.reader l.reader
