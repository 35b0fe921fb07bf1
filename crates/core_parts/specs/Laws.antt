-- What a sweep over all blocks or entries makes is made by those alone that change.
use Rattle.std.specs.Prelude.{◌≡◌, ◌≢◌, ℕ, ◌<◌, ℤ, Bool, true, false, not, ◌&&◌, ◌||◌, ◌==◌}
use Rattle.std.specs.List.{list_any}
use Rattle.event_spec.specs.declared.part.Head.{Head}
use Rattle.event_spec.specs.Effects.{kept_places, with_empty, with_place}
use Rattle.event_spec.specs.Lawful.{Among}
use Rattle.event_spec.specs.Parts.{shard_of}
use Rattle.core_laws.specs.Frames.Shards.{ShardHolds}
use Rattle.key_index.specs.Candidates.{Places, candidates_of}
use Rattle.core_parts.specs.Heads.{Knows, gained}
use Rattle.core_parts.specs.Shards.{without_place}

-- A head that knows the empty blocks and gains one knows them all again, as if it went over all
-- blocks.
abbrev pub GainsGoOn : Type 0
GainsGoOn = (blocks block : ℕ) (empty after : ℕ → Bool) (head : Head)
    → Knows blocks empty head → block < blocks
    → ((other : ℕ) → other < blocks → after other ≡ (empty other || (other == block)))
    → head.block < blocks
    → gained block head ≡ with_empty blocks after head

-- A head that knows the empty blocks is as if it went over all blocks.
abbrev pub KnowingRests : Type 0
KnowingRests = (blocks : ℕ) (empty after : ℕ → Bool) (head : Head)
    → Knows blocks empty head → head.block < blocks
    → ((other : ℕ) → other < blocks → after other ≡ empty other)
    → with_empty blocks after head ≡ head

-- A head knows the empty blocks after it went over all.
abbrev pub SweptKnows : Type 0
SweptKnows = (blocks : ℕ) (empty : ℕ → Bool) (head : Head)
    → Knows blocks empty (with_empty blocks empty head)

-- A shard after a sweep loses one candidate more as if the sweep had not kept it.
abbrev pub DropsGoOn : Type 0
DropsGoOn = (shard : ℕ) (places : Places) (keep after : ℕ → Bool) (key : ℤ) (place : ℕ)
    → ShardHolds shard places → shard_of key ≡ shard
    → ((one : ℕ) → Among one (candidates_of places key) → after one
    ≡ (keep one && not (one == place)))
    → ((other : ℤ) (one : ℕ) → other ≢ key → Among one (candidates_of places other) → after one
    ≡ keep one)
    → without_place key place (kept_places keep places) ≡ kept_places after places

-- Sweeps that keep the same candidates are one.
abbrev pub SweepsAgree : Type 0
SweepsAgree = (shard : ℕ) (places : Places) (keep after : ℕ → Bool)
    → ShardHolds shard places
    → ((key : ℤ) (place : ℕ) → Among place (candidates_of places key) → after place ≡ keep place)
    → kept_places after places ≡ kept_places keep places

-- A sweep that keeps all candidates changes nothing.
abbrev pub SweepRests : Type 0
SweepRests = (shard : ℕ) (places : Places) (keep : ℕ → Bool)
    → ShardHolds shard places
    → ((key : ℤ) (place : ℕ) → Among place (candidates_of places key) → keep place ≡ true)
    → kept_places keep places ≡ places

-- A candidate that was added is taken back.
abbrev pub AddedIsDropped : Type 0
AddedIsDropped = (shard : ℕ) (places : Places) (key : ℤ) (place : ℕ)
    → ShardHolds shard places → shard_of key ≡ shard
    → list_any (λ other. other == place) (candidates_of places key) ≡ false
    → without_place key place (with_place key place places) ≡ places
