use Rattle.core_laws.proofs.Following.Stepping.{commit_follows, empty_commit_follows, abort_follows}
use Rattle.core_laws.proofs.follow_laws.an_end_follows.Goals as goal

pub returns-clause-commit : goal.returns-clause-commit
returns-clause-commit c = commit_follows

pub returns-clause-empty : goal.returns-clause-empty
returns-clause-empty c = empty_commit_follows

pub returns-clause-abort : goal.returns-clause-abort
returns-clause-abort c = abort_follows
