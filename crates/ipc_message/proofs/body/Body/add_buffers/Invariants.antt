use Rattle.std.proofs.Common.{◌≡◌, ◌+◌, ◌++◌, ◌<◌, ◌^◌, length, drop}
use Rattle.std.specs.Prelude.{flat_map}
use Rattle.arrow_spec.specs.Batches.{buffer_places}
use Rattle.arrow_spec.specs.Bytes.{padded}
use Rattle.ipc_message.proofs.body.Body.add_buffers.Given as goal

abbrev pub invariant-loop-buffer : goal.invariant-loop-buffer
invariant-loop-buffer l = record {
  places : l.self.places.items ++ buffer_places l.self.size (drop l.buffer-index l.buffers)
      ≡ l.initial.self.places.items ++ buffer_places l.initial.self.size l.buffers;
  size : l.self.size + length (flat_map padded (drop l.buffer-index l.buffers))
      ≡ l.initial.self.size + length (flat_map padded l.buffers);
  below : l.self.size < 2 ^ 63;
}
