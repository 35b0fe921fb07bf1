use Rattle.compact_plan.proofs.Planned.{looks_have_places, plans_fit}
use Rattle.compact_plan.proofs.laws.plans_fit.Goals as goal

pub returns-clause-fits : goal.returns-clause-fits
returns-clause-fits c = plans_fit

pub returns-clause-places : goal.returns-clause-places
returns-clause-places c = looks_have_places
