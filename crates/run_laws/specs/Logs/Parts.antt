-- Which parts there are behind a log.
use Rattle.std.specs.Prelude.{ℕ, ◌<◌, List}
use Rattle.event_spec.specs.Lawful.{HasBlock, HasTable}
use Rattle.event_spec.specs.Parts.{Parts, Shape, HeadOf, ShardOf, BodyOf, TheDesk, part_at}
use Rattle.event_spec.specs.Replay.{IsLawfulLog, Made, replay}
use Rattle.event_spec.specs.Sound.{IsOfKind, IsShape}

-- The head and the eight shards of each table, each of its bodies, and the desk are there, each of
-- its kind: what is told of a head, a shard, a body or the desk is never told of a part that is
-- wanting.
pub record HasParts (shape : Shape) (parts : Parts) : Type 0 where
  pub heads : (table : ℕ) → HasTable shape table
      → IsOfKind (HeadOf table) (part_at shape parts (HeadOf table))
  pub shards : (table shard : ℕ) → HasTable shape table → shard < 8
      → IsOfKind (ShardOf table shard) (part_at shape parts (ShardOf table shard))
  pub bodies : (table block : ℕ) → HasBlock shape table block
      → IsOfKind (BodyOf table block) (part_at shape parts (BodyOf table block))
  pub desk : IsOfKind TheDesk (part_at shape parts TheDesk)

-- So it is behind every lawful log.
abbrev pub PartsAreThere : Type 0
PartsAreThere = (shape : Shape) (log : List Made) → IsShape shape → IsLawfulLog shape log
    → HasParts shape (replay shape log)
