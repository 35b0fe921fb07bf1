-- Worked examples of cores that begin with commits, as facts.
use Rattle.std.specs.Prelude.{◌≡◌, ℕ, pos, List, [], ◌∷◌, None, Some, map, replicate, codes}
use Rattle.std.specs.List.{range_with_len}
use Rattle.std.specs.FinMap as finite
use Rattle.block_layout.specs.Place.{place_of}
use Rattle.block_spec.specs.Slots.{Row, bare}
use Rattle.block_spec.specs.Examples.{row_of, settled}
use Rattle.event_spec.specs.declared.event.Event.TheVariants as event
use Rattle.event_spec.specs.declared.part.Part.TheVariants as part
use Rattle.event_spec.specs.declared.reply.Reply.TheVariants as reply
use Rattle.event_spec.specs.Parts.{Shape, ShardOf, body_at, desk_at, head_at, part_at}
use Rattle.event_spec.specs.Examples.{shape, whole}
use Rattle.event_spec.specs.Replies.{reply_to}
use Rattle.event_spec.specs.Replay.{opening, opening_head, rows_first}
use Rattle.event_spec.specs.Sound.{IsShape}
use Rattle.isolation_spec.specs.Contents.{History, WriteSet, place_at}

abbrev pub row : ℕ → Row
row key = row_of key (codes "a")

-- a commit that leaves rows of these keys in a table, and one that removes a key's
abbrev pub puts : ℕ → List ℕ → WriteSet
puts table keys = map (λ key. (place_at table (pos key), Some (row key))) keys

abbrev pub removes : ℕ → ℕ → WriteSet
removes table key = (place_at table (pos key), None) ∷ []

-- six rows in table 0, one of which the second commit removes, and one row in table 1
abbrev pub three_commits : History
three_commits = puts 0 (1 ∷ 2 ∷ 5 ∷ 8 ∷ 13 ∷ 16 ∷ []) ∷ removes 0 2 ∷ puts 1 (4 ∷ []) ∷ []

abbrev pub begun : Shape
begun = record shape { first = three_commits }

-- Heads over rows that fill slots from the first: the last row's block takes inserts.
abbrev pub HeadsStandBehindRows : Type 0
HeadsStandBehindRows =
    (map (opening_head 3 4) (0 ∷ 1 ∷ 4 ∷ 5 ∷ 8 ∷ 12 ∷ [])
    ≡ record { block = 0; taken = 0; inserts = 0; empty = 1 ∷ 2 ∷ [] }
    ∷ record { block = 0; taken = 1; inserts = 1; empty = 1 ∷ 2 ∷ [] }
    ∷ record { block = 0; taken = 4; inserts = 4; empty = 1 ∷ 2 ∷ [] }
    ∷ record { block = 1; taken = 1; inserts = 5; empty = 2 ∷ [] }
    ∷ record { block = 1; taken = 4; inserts = 8; empty = 2 ∷ [] }
    ∷ record { block = 2; taken = 4; inserts = 12; empty = [] }
    ∷ [])
    × (head_at begun (opening begun) 0
    ≡ record { block = 1; taken = 1; inserts = 5; empty = [] })
    × (head_at begun (opening begun) 1
    ≡ record { block = 0; taken = 1; inserts = 1; empty = 1 ∷ [] })

-- The rows stand in the order of their keys, each in the next slot, and have no entry.
abbrev pub RowsFillSlots : Type 0
RowsFillSlots =
    (rows_first begun 0 ≡ map row (1 ∷ 5 ∷ 8 ∷ 13 ∷ 16 ∷ []))
    × ((body_at begun (opening begun) 0 0).slots ≡ map (λ key. settled (row key)) (1 ∷ 5 ∷ 8 ∷ 13 ∷ []))
    × ((body_at begun (opening begun) 0 1).slots ≡ settled (row 16) ∷ replicate 3 bare)
    × ((body_at begun (opening begun) 1 0).slots ≡ settled (row 4) ∷ replicate 3 bare)
    × ((body_at begun (opening begun) 1 1).slots ≡ replicate 4 bare)
    × (reply_to begun (opening begun) (event.Read (whole []) 0 1) ≡ reply.Rows (row 16 ∷ []))

-- Each row's key has the place of its slot, in the key's shard.
abbrev pub KeysHaveTheirPlaces : Type 0
KeysHaveTheirPlaces =
    (part_at begun (opening begun) (ShardOf 0 0)
    ≡ Some (part.Shard
    (finite.from_entries ((pos 8, 2 ∷ []) ∷ (pos 16, place_of 1 0 ∷ []) ∷ []))))
    × (part_at begun (opening begun) (ShardOf 0 5)
    ≡ Some (part.Shard (finite.from_entries ((pos 5, 1 ∷ []) ∷ (pos 13, 3 ∷ []) ∷ []))))
    × (part_at begun (opening begun) (ShardOf 0 2) ≡ Some (part.Shard finite.empty))
    × (part_at begun (opening begun) (ShardOf 1 4)
    ≡ Some (part.Shard (finite.from_entries ((pos 4, 0 ∷ []) ∷ []))))

-- The desk knows how many commits there are, and the last of each table; it has given out no stamp.
abbrev pub DesksKnowTheCommits : Type 0
DesksKnowTheCommits =
    (desk_at begun (opening begun) ≡ record {
      newest = 0;
      commits = 3;
      open_snapshots = replicate 3 None;
      wrote = 2 ∷ 3 ∷ replicate 14 0;
    })
    × (reply_to begun (opening begun) (event.Begin 1)
    ≡ reply.Begun (record { stamp = 0; number = 3 }))

-- A core does not begin with a write set that is no commit, nor with more rows than a table takes.
abbrev pub OthersAreNoShapes : Type 0
OthersAreNoShapes =
    (IsShape (record shape { first = [] ∷ [] }) → ⊥)
    × (IsShape (record shape { first = puts 2 (1 ∷ []) ∷ [] }) → ⊥)
    × (IsShape (record shape { first = puts 1 (range_with_len 1 9) ∷ [] }) → ⊥)
