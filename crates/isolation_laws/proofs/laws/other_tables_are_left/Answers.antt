use Rattle.isolation_laws.proofs.Rows.{contents_of-other}
use Rattle.isolation_laws.proofs.laws.other_tables_are_left.Goals as goal

pub returns : goal.returns
returns c = contents_of-other
