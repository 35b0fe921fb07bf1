use Rattle.std.proofs.Common.{◌≡◌, ◌++◌, take}
use Rattle.std.specs.Prelude.{flat_map}
use Rattle.arrow_spec.specs.Bytes.{padded}
use Rattle.ipc_message.proofs.whole.put_buffers.Given as goal

abbrev pub invariant-loop-buffer : goal.invariant-loop-buffer
invariant-loop-buffer l = l.out.items ≡ l.initial.out.items ++ flat_map padded (take l.buffer-index l.buffers)
