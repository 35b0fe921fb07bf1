use Rattle.core_laws.proofs.Following.Stepping.{begin_follows}
use Rattle.core_laws.proofs.follow_laws.a_begin_follows.Goals as goal

pub returns : goal.returns
returns c = begin_follows
