use Rattle.std.proofs.Common.{◌∙◌}
use Rattle.shared_store.proofs.Rows.{ok_on}
use Rattle.shared_store.proofs.store.Store.build.Goals as goal

pub returns-clause-shape : goal.returns-clause-shape
returns-clause-shape c = ok_on c.raise.result (λ built is. is ∙ c.in_ok-core.ensures.shape) c.raise.ensures.shape
