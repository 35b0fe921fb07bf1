use Rattle.std.proofs.Common.{◌≡◌, ◌++◌, length, take}
use Rattle.std.specs.List.{flat_map}
use Rattle.std.specs.Int.{w32, to_le_bytes}
use Rattle.log_spec.specs.LogText.{set_text}
use Rattle.log_records.proofs.writing.payload_of.Given as goal

abbrev pub invariant-loop-writes : goal.invariant-loop-writes
invariant-loop-writes l = l.bytes.items ≡ to_le_bytes w32 (length l.commits) ++ flat_map set_text (take l.writes-index l.commits)
