use Rattle.stream_laws.proofs.Wholes.{batches_are_whole, needs_are_counted}
use Rattle.stream_laws.proofs.a_batch_that_is_read_is_whole.Goals as goal

pub returns-clause-whole : goal.returns-clause-whole
returns-clause-whole c = batches_are_whole

pub returns-clause-needs : goal.returns-clause-needs
returns-clause-needs c = needs_are_counted
