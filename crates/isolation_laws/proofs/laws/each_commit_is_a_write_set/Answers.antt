use Rattle.isolation_laws.proofs.Writes.{history_of-push, all_rows-push, state_at-history}
use Rattle.isolation_laws.proofs.laws.each_commit_is_a_write_set.Goals as goal

pub returns-clause-more : goal.returns-clause-more
returns-clause-more c = λ table groups group. (history_of-push table groups group, all_rows-push groups group)

pub returns-clause-whole : goal.returns-clause-whole
returns-clause-whole c = state_at-history
