use Rattle.core_laws.proofs.Frozen.Stamps.{seals_are_new, stamps_rise}
use Rattle.core_laws.proofs.frozen_laws.each_stamp_comes_once.Goals as goal

pub returns-clause-rises : goal.returns-clause-rises
returns-clause-rises c = stamps_rise

pub returns-clause-seals : goal.returns-clause-seals
returns-clause-seals c = seals_are_new
