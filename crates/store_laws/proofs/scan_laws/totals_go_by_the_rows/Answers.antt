use Rattle.store_laws.proofs.Totals.{totals_go_by_the_rows}
use Rattle.store_laws.proofs.scan_laws.totals_go_by_the_rows.Goals as goal

pub returns : goal.returns
returns c = totals_go_by_the_rows
