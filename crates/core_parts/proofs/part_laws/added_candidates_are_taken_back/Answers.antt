use Rattle.core_parts.proofs.Shards.{added_is_dropped}
use Rattle.core_parts.proofs.part_laws.added_candidates_are_taken_back.Goals as goal

pub returns : goal.returns
returns c = added_is_dropped
