use Rattle.std.proofs.Common.{◌≡◌, ◌++◌, take}
use Rattle.std.specs.Prelude.{flat_map}
use Rattle.arrow_spec.specs.Bytes.{padded}
use Rattle.ipc_message.proofs.whole.put_body.Given as goal

abbrev pub invariant-loop-array : goal.invariant-loop-array
invariant-loop-array l = l.out.items
    ≡ l.initial.out.items ++ flat_map padded (flat_map (λ array. array.buffers) (take l.array-index l.arrays))
