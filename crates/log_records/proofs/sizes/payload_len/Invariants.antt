use Rattle.std.proofs.Common.{◌≡◌, ◌+◌, ◌-◌, ◌^◌, length, min, take}
use Rattle.std.specs.List.{flat_map}
use Rattle.log_spec.specs.LogText.{set_text}
use Rattle.log_records.proofs.sizes.payload_len.Given as goal

abbrev pub invariant-loop-writes : goal.invariant-loop-writes
invariant-loop-writes l = l.len ≡ min (4 + length (flat_map set_text (take l.writes-index l.commits))) (2 ^ 64 - 1)
