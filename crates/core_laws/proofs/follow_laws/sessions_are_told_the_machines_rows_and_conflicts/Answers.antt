use Rattle.core_laws.proofs.Following.Stepping.{judges}
use Rattle.core_laws.proofs.follow_laws.sessions_are_told_the_machines_rows_and_conflicts.Goals as goal

pub returns : goal.returns
returns c = judges
