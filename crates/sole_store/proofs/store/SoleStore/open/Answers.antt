use Rattle.std.proofs.Common.{ap}
use Rattle.event_spec.specs.Parts.{Shape}
use Rattle.sole_store.proofs.Ending.{sole_first}
use Rattle.sole_store.proofs.store.SoleStore.open.Goals as goal

pub invariant_of-result : goal.invariant_of-result
invariant_of-result c =
    sole_first c.in_ok-core.core.shape c.in_ok-shape.shape c.in_ok-core.core.parts c.in_ok-shape.hand c.in_ok-core.ensures.opening
    (ap (λ (sh : Shape). sh.passes) c.in_ok-core.ensures.shape) c.in_ok-shape.ensures.0 c.in_ok-shape.ensures.1
