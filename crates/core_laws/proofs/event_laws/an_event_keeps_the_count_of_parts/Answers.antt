use Rattle.core_laws.proofs.Events.States.{length-changed}
use Rattle.event_spec.specs.Effects.{changes_of}
use Rattle.event_spec.specs.Parts.{names}
use Rattle.core_laws.proofs.event_laws.an_event_keeps_the_count_of_parts.Goals as goal

pub returns : goal.returns
returns c = λ shape event parts. length-changed (changes_of shape parts event) (names shape) parts
