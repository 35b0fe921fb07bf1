use Rattle.std.proofs.Common.{subst, refl}
use Rattle.std.specs.List.{All}
use Rattle.std.proofs.lemmas.List.Elements.{All-more}
use Rattle.std.proofs.lemmas.List.{take_all}
use Rattle.cell_model.specs.Schemas.{IsName}
use Rattle.cell_model.proofs.column.are_named.Goals as goal

pub loop-column-preserved : goal.loop-column-preserved
loop-column-preserved c = All-more IsName _ _ c.column-item.result c.loop-column-test.true c.loop-column.invariant (subst IsName c.column-item.is (c.if-not-is_named.ensures.0 refl))

pub returns : goal.returns
returns c = (λ _. record { each = subst (All IsName) (take_all _ _ c.loop-column-test.false) c.loop-column.invariant }, λ _. refl)
