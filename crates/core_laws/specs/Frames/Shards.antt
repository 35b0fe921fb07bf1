-- What holds of the index besides its candidates.
use Rattle.std.specs.Prelude.{◌≡◌, ◌≢◌, ℕ, ℤ, List, [], Some}
use Rattle.std.specs.FinMap as finite
use Rattle.event_spec.specs.declared.part.Part.TheVariants as part
use Rattle.event_spec.specs.Parts.{Parts, Shape, ShardOf, part_at, shard_of}
use Rattle.event_spec.specs.Sound.{IsShape, Sound}
use Rattle.key_index.specs.Candidates.{Places}

-- A shard has entries of its own keys alone, and each of them has a candidate.
pub record ShardHolds (shard : ℕ) (places : Places) : Type 0 where
  pub own : (key : ℤ) (candidates : List ℕ) → finite.get places key ≡ Some candidates → shard_of key
      ≡ shard
  pub some : (key : ℤ) → finite.get places key ≢ Some []

abbrev pub ShardsHold : Shape → Parts → Type 0
ShardsHold shape parts = (table shard : ℕ) (places : Places)
    → part_at shape parts (ShardOf table shard) ≡ Some (part.Shard places) → ShardHolds shard places

-- What holds of every core that lawful events reach.
pub record CoreHolds (shape : Shape) (parts : Parts) : Type 0 where
  pub measures : IsShape shape
  pub sound : Sound shape parts
  pub shards : ShardsHold shape parts
