use Rattle.std.proofs.Common.{◌≡◌, ◌+◌, ◌-◌, ◌≤◌, ◌^◌}
use Rattle.std.specs.List.{range_with_len}
use Rattle.std.specs.Vec.{vec_capacity}
use Rattle.core_parts.proofs.head_changes.TableHead.new.Given as goal

abbrev pub invariant-loop-behind : goal.invariant-loop-behind
invariant-loop-behind l = (l.block + 1 ≤ l.behind) × (l.empty.items ≡ range_with_len (l.block + 1) (l.behind - (l.block + 1))) × (2 ^ 10 ≤ vec_capacity l.empty) × (l.behind - (l.block + 1) ≤ l.fn.blocks - (l.block + 1))
