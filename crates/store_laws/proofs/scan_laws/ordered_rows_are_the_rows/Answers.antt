use Rattle.store_laws.proofs.Permuted.{ordered_rows_are_the_rows}
use Rattle.store_laws.proofs.scan_laws.ordered_rows_are_the_rows.Goals as goal

pub returns : goal.returns
returns c = ordered_rows_are_the_rows
