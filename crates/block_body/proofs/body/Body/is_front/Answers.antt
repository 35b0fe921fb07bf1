use Rattle.block_body.specs.Chains.{entries_at}
use Rattle.block_body.proofs.body.Body.is_front.Goals as goal

pub returns : goal.returns
returns c = rw (← c.self.view_is) (c.is_front.ensures (entries_at c.self.inside.chains.entries))
