use Rattle.core_laws.proofs.Sound.Invariant.{keeps}
use Rattle.core_laws.proofs.sound_laws.a_lawful_event_keeps_the_invariant.Goals as goal

pub returns : goal.returns
returns c = keeps
