use Rattle.std.proofs.Common.{◌≡◌}
use Rattle.std.specs.Prelude.{filter}
use Rattle.std.specs.List.{range_with_len}
use Rattle.block_spec.specs.Slots.{is_bare}
use Rattle.block_spec.specs.Bodies.{slot_in}
use Rattle.block_body.proofs.body.Body.gaps.Given as goal

abbrev pub invariant-loop-slot : goal.invariant-loop-slot
invariant-loop-slot l = l.gaps.items ≡ filter (λ j. is_bare (slot_in l.self j)) (range_with_len 0 l.slot)
