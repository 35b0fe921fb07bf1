use Rattle.store_laws.proofs.Calling.{single_events_are_calls}
use Rattle.store_laws.proofs.a_single_event_is_a_call.Goals as goal

pub returns : goal.returns
returns c = single_events_are_calls
