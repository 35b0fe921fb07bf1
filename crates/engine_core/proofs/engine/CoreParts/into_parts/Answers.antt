use Rattle.std.proofs.Common.{◌∙◌, ap}
use Rattle.engine_core.specs.Core.{CoreState}
use Rattle.hall_rule.specs.Hands.{all_in}
use Rattle.engine_core.proofs.engine.CoreParts.into_parts.Goals as goal

pub returns : goal.returns
returns c = (
  ap (λ (v : CoreState). v.shape) c.self.view_is,
  c.self.invariant.all ∙ ap (λ (v : CoreState). all_in v.parts) c.self.view_is,
)
