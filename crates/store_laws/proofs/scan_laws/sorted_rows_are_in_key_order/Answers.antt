use Rattle.store_laws.proofs.Sorting.{sorted_rows_are_in_key_order}
use Rattle.store_laws.proofs.scan_laws.sorted_rows_are_in_key_order.Goals as goal

pub returns : goal.returns
returns c = sorted_rows_are_in_key_order
