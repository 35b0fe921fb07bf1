use Rattle.core_laws.proofs.Parts.Lasting.{learns, outlives}
use Rattle.core_laws.proofs.part_laws.oldest_stamps_last.Goals as goal

pub returns-clause-outlives : goal.returns-clause-outlives
returns-clause-outlives c = outlives

pub returns-clause-learns : goal.returns-clause-learns
returns-clause-learns c = learns
