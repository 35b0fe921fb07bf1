use Rattle.std.proofs.Common.{length}
use Rattle.key_index.specs.Candidates.{candidates_of}
use Rattle.core_parts.proofs.Shards.{Dropping}
use Rattle.core_parts.proofs.shard_changes.drop_place.Given as goal

abbrev pub invariant-loop-place : goal.invariant-loop-place
invariant-loop-place l = Dropping l.fn.index l.index l.key l.place

abbrev pub decreases-loop-place : goal.decreases-loop-place
decreases-loop-place l = length (candidates_of l.index l.key)
