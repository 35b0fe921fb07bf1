-- The keys of an index between two.
use Rattle.std.specs.Prelude.{ℕ, ℤ, ◌&&◌, List, map, filter, int_le}
use Rattle.std.specs.FinMap as finite
use Rattle.key_index.specs.Candidates.{Places, candidates_of}
use Rattle.range_index.specs.declared.between.Between.{Between}
use Rattle.range_index.specs.declared.between.KeyCandidates.{KeyCandidates}

-- a key with the places of its candidates
pub record KeyPlaces : Type 0 where
  pub key : ℤ
  pub places : List ℕ

abbrev pub with_places : Places → ℤ → KeyPlaces
with_places index key = record { key = key; places = candidates_of index key }

-- The keys that have candidates and lie between two, both counted, in ascending order.
abbrev pub keys_within : ℤ → ℤ → Places → List ℤ
keys_within low high index = filter (λ key. int_le low key && int_le key high) (finite.keys index)

-- These keys with their candidates.
abbrev pub pairs_within : ℤ → ℤ → Places → List KeyPlaces
pairs_within low high index = map (with_places index) (keys_within low high index)

-- a lent key with its candidates
abbrev pub seen : KeyCandidates → KeyPlaces
seen lent = record { key = lent.key; places = lent.candidates.now }

-- what is still to come
abbrev pub left : Between → List KeyPlaces
left between = map (with_places between.index.now) between.keys
