use Rattle.stream_laws.proofs.Wholes.{search_is_long_enough}
use Rattle.stream_laws.proofs.the_search_for_batches_is_long_enough.Goals as goal

pub returns : goal.returns
returns c = search_is_long_enough
