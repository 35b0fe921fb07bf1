use Rattle.core_laws.proofs.Frozen.Moments.{seals_rise, stamps_stand_together}
use Rattle.core_laws.proofs.frozen_laws.moments_of_a_stamp_follow_one_another.Goals as goal

pub returns-clause-together : goal.returns-clause-together
returns-clause-together c = stamps_stand_together

pub returns-clause-once : goal.returns-clause-once
returns-clause-once c = seals_rise
