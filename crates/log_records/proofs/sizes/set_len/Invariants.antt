use Rattle.std.proofs.Common.{◌≡◌, ◌+◌, ◌-◌, ◌^◌, length, min, take}
use Rattle.std.specs.List.{flat_map}
use Rattle.log_spec.specs.LogText.{write_text}
use Rattle.log_records.proofs.sizes.set_len.Given as goal

abbrev pub invariant-loop-write : goal.invariant-loop-write
invariant-loop-write l = l.len ≡ min (4 + length (flat_map write_text (take l.write-index l.write-items))) (2 ^ 64 - 1)
