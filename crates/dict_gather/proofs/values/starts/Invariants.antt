use Rattle.std.proofs.Common.{◌≡◌, ◌+◌, ◌++◌, drop, length, map}
use Rattle.std.specs.Int.{w32, to_le_bytes}
use Rattle.std.specs.Prelude.{flat_map}
use Rattle.dict_gather.specs.Values.{starts_from}
use Rattle.dict_gather.proofs.values.starts.Given as goal

abbrev pub invariant-loop-value : goal.invariant-loop-value
invariant-loop-value l = record {
  within : l.end + length (flat_map (λ value. value.now) (drop l.value-index l.values)) ≡ length (flat_map (λ value. value.now) l.values);
  bytes : l.bytes.items ++ flat_map (to_le_bytes w32) (starts_from l.end (map (λ value. value.now) (drop l.value-index l.values)))
      ≡ flat_map (to_le_bytes w32) (starts_from 0 (map (λ value. value.now) l.values));
}
