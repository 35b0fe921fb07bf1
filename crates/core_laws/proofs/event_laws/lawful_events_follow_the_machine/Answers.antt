use Rattle.core_laws.proofs.Events.Steps.{steps}
use Rattle.core_laws.proofs.event_laws.lawful_events_follow_the_machine.Goals as goal

pub returns : goal.returns
returns c = steps
