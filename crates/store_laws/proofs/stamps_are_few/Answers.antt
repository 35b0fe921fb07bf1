use Rattle.store_laws.proofs.Stamps.{stamps_are_few}
use Rattle.store_laws.proofs.stamps_are_few.Goals as goal

pub returns : goal.returns
returns c = stamps_are_few
