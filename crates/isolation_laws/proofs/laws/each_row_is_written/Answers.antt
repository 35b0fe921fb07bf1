use Rattle.isolation_laws.proofs.Writes.{writes_of-push, writes_of-cons}
use Rattle.isolation_laws.proofs.laws.each_row_is_written.Goals as goal

pub returns-clause-more : goal.returns-clause-more
returns-clause-more c = writes_of-push

pub returns-clause-some : goal.returns-clause-some
returns-clause-some c = writes_of-cons
