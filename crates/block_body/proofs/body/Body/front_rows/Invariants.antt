use Rattle.std.proofs.Common.{◌≡◌, ◌≤◌, vec_len, vec_capacity}
use Rattle.std.specs.List.{filter_map, range_with_len}
use Rattle.block_spec.specs.Looks.{movable}
use Rattle.block_body.proofs.body.Body.front_rows.Given as goal

abbrev pub invariant-loop-slot : goal.invariant-loop-slot
invariant-loop-slot l = record {
  rows : l.rows.items ≡ filter_map (movable l.self) (range_with_len 0 l.slot);
  len : vec_len l.rows ≡ l.slot;
  room : l.count ≤ vec_capacity l.rows;
}
