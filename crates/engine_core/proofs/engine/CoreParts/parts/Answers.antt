use Rattle.std.proofs.Common.{length, sym, ap, ◌∙◌, arith}
use Rattle.engine_core.proofs.Counts.{few_parts}
use Rattle.engine_core.specs.Core.{CoreState}
use Rattle.engine_core.proofs.engine.CoreParts.parts.Goals as goal

pub overflow_add-result : goal.overflow_add-result
overflow_add-result c = let few = few_parts c.self.inside.shape c.tables-tables.ensures.few in let last = c.desk.ensures.last in omega (arith, few, last)

pub returns : goal.returns
returns c = sym (c.self.invariant.holds.sound.count ∙ c.desk.ensures.last) ∙ ap (λ (v : CoreState). length v.parts) c.self.view_is
