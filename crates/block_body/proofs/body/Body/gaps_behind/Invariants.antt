use Rattle.std.proofs.Common.{◌≡◌, ◌+◌, ◌≤◌, vec_len, vec_capacity}
use Rattle.std.specs.Prelude.{filter}
use Rattle.std.specs.List.{range_with_len}
use Rattle.block_spec.specs.Slots.{is_bare}
use Rattle.block_spec.specs.Bodies.{slot_in}
use Rattle.block_body.proofs.body.Body.gaps_behind.Given as goal

abbrev pub invariant-loop-slot : goal.invariant-loop-slot
invariant-loop-slot l = record {
  gaps : l.gaps.items ≡ filter (λ j. is_bare (slot_in l.self j)) (range_with_len 0 l.slot);
  len : l.count + vec_len l.gaps ≡ l.slot;
  room : l.slots ≤ l.count + vec_capacity l.gaps;
}
