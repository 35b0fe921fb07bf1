use Rattle.isolation_laws.proofs.Rows.{contents_of-state_after, length-contents_of}
use Rattle.isolation_laws.proofs.laws.the_contents_are_the_rows.Goals as goal

pub returns-clause-rows : goal.returns-clause-rows
returns-clause-rows c = contents_of-state_after

pub returns-clause-count : goal.returns-clause-count
returns-clause-count c = length-contents_of
