use Rattle.std.proofs.Common.{◌≡◌, ◌++◌, map}
use Rattle.core_parts.specs.Placed.{placed}
use Rattle.event_spec.specs.Parts.{BodyOf, below}
use Rattle.core_parts.proofs.opening.add_bodies.Given as goal

abbrev pub invariant-loop-block : goal.invariant-loop-block
invariant-loop-block l = l.bodies.items ≡ l.fn.bodies.items ++ placed l.shape (map (BodyOf l.table) (below l.block))
