-- What holds of every core that lawful events reach.
use Rattle.core_laws.proofs.Frames.Shards.{shards_kept, shards_open}
use Rattle.core_laws.specs.Frames.Laws.{CoreKept, CoreOpens}
use Rattle.core_laws.proofs.Logs.Logs.{opens}
use Rattle.core_laws.proofs.Sound.Invariant.{keeps}

-- The opening core holds.
pub core_opens : CoreOpens
core_opens sh shape = record { measures = shape; sound = opens sh shape; shards = shards_open sh }

-- Every lawful event leaves a core that holds.
pub core_kept : CoreKept
core_kept sh e s holds lawful = record {
  measures = holds.measures;
  sound = keeps sh s e holds.measures holds.sound lawful;
  shards = shards_kept sh e s holds.shards;
}
