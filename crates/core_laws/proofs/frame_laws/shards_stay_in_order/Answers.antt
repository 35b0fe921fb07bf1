use Rattle.core_laws.proofs.Frames.Shards.{shards_kept, shards_open}
use Rattle.core_laws.proofs.frame_laws.shards_stay_in_order.Goals as goal

pub returns-clause-opens : goal.returns-clause-opens
returns-clause-opens c = shards_open

pub returns-clause-keeps : goal.returns-clause-keeps
returns-clause-keeps c = shards_kept
