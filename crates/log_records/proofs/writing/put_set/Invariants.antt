use Rattle.std.proofs.Common.{◌≡◌, ◌++◌, length, take}
use Rattle.std.specs.List.{flat_map}
use Rattle.std.specs.Int.{w32, to_le_bytes}
use Rattle.log_spec.specs.LogText.{write_text}
use Rattle.log_records.proofs.writing.put_set.Given as goal

abbrev pub invariant-loop-write : goal.invariant-loop-write
invariant-loop-write l = l.bytes.items ≡ (l.fn.bytes.items ++ to_le_bytes w32 (length l.writes)) ++ flat_map write_text (take l.write-index l.writes)
