use Rattle.isolation_laws.proofs.Rows.{at_place-seen}
use Rattle.isolation_laws.proofs.laws.the_row_of_a_key_is_found.Goals as goal

pub returns : goal.returns
returns c = at_place-seen
