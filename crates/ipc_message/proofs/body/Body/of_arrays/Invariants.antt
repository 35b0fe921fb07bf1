use Rattle.std.proofs.Common.{◌≡◌, ◌+◌, ◌++◌, ◌<◌, ◌^◌, length, drop}
use Rattle.std.specs.Prelude.{flat_map}
use Rattle.arrow_spec.specs.Batches.{buffer_places}
use Rattle.arrow_spec.specs.Bytes.{padded}
use Rattle.ipc_message.proofs.body.Body.of_arrays.Given as goal

abbrev pub invariant-loop-array : goal.invariant-loop-array
invariant-loop-array l = record {
  places : l.body.places.items
      ++ buffer_places l.body.size (flat_map (λ array. array.buffers) (drop l.array-index l.arrays))
      ≡ buffer_places 0 (flat_map (λ array. array.buffers) l.arrays);
  size : l.body.size + length (flat_map padded (flat_map (λ array. array.buffers) (drop l.array-index l.arrays)))
      ≡ length (flat_map padded (flat_map (λ array. array.buffers) l.arrays));
  below : l.body.size < 2 ^ 63;
}
