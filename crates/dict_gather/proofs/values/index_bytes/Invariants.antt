use Rattle.std.proofs.Common.{◌≡◌, take}
use Rattle.std.specs.Int.{w32, to_le_bytes}
use Rattle.std.specs.Prelude.{flat_map}
use Rattle.dict_gather.proofs.values.index_bytes.Given as goal

abbrev pub invariant-loop-index : goal.invariant-loop-index
invariant-loop-index l = l.bytes.items ≡ flat_map (to_le_bytes w32) (take l.index-index l.indices)
