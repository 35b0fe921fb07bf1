use Rattle.std.proofs.Common.{◌≡◌, ◌++◌, ◌≤◌, length}
use Rattle.std.specs.Prelude.{vec_capacity}
use Rattle.shared_store.proofs.session_writes.laid_out.Given as goal

abbrev pub invariant-loop-write : goal.invariant-loop-write
invariant-loop-write l = record {
  split : l.room.items ++ l.write-iterator ≡ l.fn.own.entries;
  room : length l.fn.own.entries ≤ vec_capacity l.room;
}
