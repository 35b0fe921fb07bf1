use Rattle.core_laws.proofs.Following.Stepping.{write_follows}
use Rattle.core_laws.proofs.follow_laws.a_write_follows.Goals as goal

pub returns : goal.returns
returns c = write_follows
