use Rattle.std.proofs.Common.{◌≡◌, ◌+◌, ◌-◌, ◌≤◌, ◌++◌, [], replicate, vec_len, vec_capacity}
use Rattle.block_columns.proofs.store.add_empty.Given as goal

abbrev pub invariant-loop-added : goal.invariant-loop-added
invariant-loop-added l = record {
  room : vec_len l.values + (l.n - l.added) ≤ vec_capacity l.values;
  items : l.values.items ≡ l.initial.values.items ++ replicate l.added [];
}
