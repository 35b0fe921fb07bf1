use Rattle.std.proofs.Common.{◌≡◌, take}
use Rattle.event_spec.specs.Parts.{slots_of}
use Rattle.event_spec.specs.Replay.{opening_shard, rows_first}
use Rattle.core_parts.proofs.first_parts.shard_over.Given as goal

abbrev pub invariant-loop-number : goal.invariant-loop-number
invariant-loop-number l = l.index ≡ opening_shard (slots_of l.shape l.table) l.shard (take l.number (rows_first l.shape l.table))
