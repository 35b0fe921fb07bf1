use Rattle.isolation_laws.proofs.Least.{least_key-writes_of, least_of-bound, least_of-push}
use Rattle.isolation_laws.proofs.laws.the_least_key_is_that_of_the_rows.Goals as goal

pub returns-clause-written : goal.returns-clause-written
returns-clause-written c = least_key-writes_of

pub returns-clause-bound : goal.returns-clause-bound
returns-clause-bound c = least_of-bound

pub returns-clause-more : goal.returns-clause-more
returns-clause-more c = least_of-push
