-- The candidates of a key in a hand, and those that decide what a session finds and meets.
use Rattle.std.specs.Prelude.{ℕ, ℤ, Bool, List, [], ◌∷◌, if◌then◌else◌}
use Rattle.std.specs.List.{list_any}
use Rattle.block_body.specs.Ages.{is_settled}
use Rattle.block_spec.specs.Slots.{Slot}
use Rattle.core_parts.specs.Hands.{Held, in_hand}
use Rattle.event_spec.specs.Parts.{Shape, ShardOf, shard_from, shard_of}
use Rattle.key_index.specs.Candidates.{candidates_of}

abbrev pub candidates_in : Shape → Held → ℕ → ℤ → List ℕ
candidates_in shape hand table key = candidates_of
    (shard_from (in_hand shape hand (ShardOf table (shard_of key)))) key

-- the places from the last one on that passes a test, and all where none does
abbrev pub from_last : (ℕ → Bool) → List ℕ → List ℕ
from_last test [] = []
from_last test (place ∷ places) = if list_any test places then from_last test places
    else place ∷ places

-- Those from the last one on whose oldest entry a snapshot with this stamp has.
abbrev pub deciding : (ℕ → Slot) → ℕ → List ℕ → List ℕ
deciding slot stamp places = from_last (λ place. is_settled (slot place) stamp) places
