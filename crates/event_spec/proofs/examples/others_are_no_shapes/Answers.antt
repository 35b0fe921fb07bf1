use Rattle.std.proofs.Common.{pos, [], None, refl, arith}
use Rattle.isolation_spec.specs.Contents.{place_at}
use Rattle.event_spec.proofs.examples.others_are_no_shapes.Goals as goal

pub returns : goal.returns
returns c = (
  λ shape. (shape.commits 0 [] (omega arith)).some refl,
  λ shape. ((shape.commits 0 [] (omega arith)).each 0 (place_at 2 (pos 1), None) (omega arith)).row,
  λ shape. let most = shape.room 1 (omega arith) in absurd (omega (arith, most)),
)
