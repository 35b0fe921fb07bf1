use Rattle.std.proofs.Common.{◌≡◌, take}
use Rattle.arrow_array.proofs.batch.Array.copied.Given as goal

abbrev pub invariant-loop-buffer : goal.invariant-loop-buffer
invariant-loop-buffer l = l.copies.items ≡ take l.buffer-index l.buffers
