use Rattle.core_laws.proofs.Hall.Meets.{has_laws, starts}
use Rattle.core_laws.proofs.hall_laws.the_core_has_the_halls_laws.Goals as goal

pub returns-clause-laws : goal.returns-clause-laws
returns-clause-laws c = has_laws

pub returns-clause-rests : goal.returns-clause-rests
returns-clause-rests c = starts
