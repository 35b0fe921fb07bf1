use Rattle.run_laws.proofs.Commits.Shares.{shares_are, sorted_shares_are}
use Rattle.run_laws.proofs.commit_laws.shares_are_the_commits.Goals as goal

pub returns-clause-shares : goal.returns-clause-shares
returns-clause-shares c = shares_are

pub returns-clause-sorted : goal.returns-clause-sorted
returns-clause-sorted c = sorted_shares_are
