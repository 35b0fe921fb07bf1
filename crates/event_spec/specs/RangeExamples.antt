-- Worked examples of ranges of keys, as facts.
use Rattle.std.specs.Prelude.{◌≡◌, ℕ, pos, List, [], ◌∷◌, ◌++◌, Some, map, filter}
use Rattle.std.specs.Prelude.{codes}
use Rattle.std.specs.FinMap as finite
use Rattle.block_layout.specs.Place.{place_of}
use Rattle.block_spec.specs.declared.change.Change.TheVariants as change
use Rattle.block_spec.specs.Slots.{Row, Slot, written, committed}
use Rattle.block_spec.specs.Examples.{row_of, settled}
use Rattle.event_spec.specs.declared.event.Event.TheVariants as event
use Rattle.event_spec.specs.declared.own.OwnTransaction.{OwnTransaction}
use Rattle.event_spec.specs.declared.reply.Reply.TheVariants as reply
use Rattle.event_spec.specs.Parts.{Parts, Name, ShardOf, BodyOf, TheDesk, names, below, part_at}
use Rattle.event_spec.specs.Parts.{each_changed, nothing}
use Rattle.event_spec.specs.Effects.{CoreEvent, at_both, effect}
use Rattle.event_spec.specs.Examples.{shape, whole, texted, parts_of}
use Rattle.event_spec.specs.Replies.{reply_to}
use Rattle.event_spec.specs.StaleExamples.{begun, got}
use Rattle.event_spec.specs.Touched.{touched}
use Rattle.isolation_spec.specs.Contents.{place_at}
use Rattle.isolation_spec.specs.declared.read.Read.TheVariants as read
use Rattle.key_index.specs.Candidates.{Places}

abbrev pub row : ℕ → Row
row key = row_of key (codes "a")

-- Table 0 has rows of the keys 5, 8, 9 and 13 in block 0. Session 1 changed that of 8 and removed
-- that of 9, and session 2 committed a change of 13 with stamp 4 and number 3.
abbrev pub slots : List Slot
slots = settled (row 5)
    ∷ written 1 (texted (codes "b")) (settled (row 8))
    ∷ written 1 change.Gone (settled (row 9))
    ∷ committed 2 4 3 (written 2 (texted (codes "b")) (settled (row 13)))
    ∷ []

-- the candidates of its keys: 8 lies in shard 0, 9 in shard 1, and 5 and 13 in shard 5
abbrev pub eight : Places
eight = finite.from_sorted ((pos 8, 1 ∷ []) ∷ [])

abbrev pub nine : Places
nine = finite.from_sorted ((pos 9, 2 ∷ []) ∷ [])

abbrev pub five : Places
five = finite.from_sorted ((pos 5, 0 ∷ []) ∷ (pos 13, 3 ∷ []) ∷ [])

abbrev pub listed : ℕ → ℕ → Places → Places
listed table shard places =
    at_both 0 0 (λ _. eight) table shard
    (at_both 0 1 (λ _. nine) table shard (at_both 0 5 (λ _. five) table shard places))

abbrev pub ranged : Parts
ranged = each_changed
    (record nothing {
      shard = listed;
      body = at_both 0 0 (λ body. record body { slots = slots });
    })
    (names shape)
    begun

-- session 1's transaction with its writes, and session 2's
abbrev pub first : OwnTransaction
first = whole ((place_at 0 (pos 8), 1) ∷ (place_at 0 (pos 9), 2) ∷ [])

abbrev pub second : OwnTransaction
second = record (whole []) { session = 2 }

-- A range has the rows of its keys of all shards, both ends counted; its own writes, but nothing of
-- another's; and none where its ends are turned or the table has none.
abbrev pub RangesAreRead : Type 0
RangesAreRead =
    (map (reply_to shape ranged)
    (event.Range second 0 (pos 5) (pos 9) ∷ event.Range second 0 (pos 6) (pos 8)
    ∷ event.Range second 0 (pos 9) (pos 13) ∷ event.Range first 0 (pos 5) (pos 13)
    ∷ event.Range second 0 (pos 9) (pos 5) ∷ event.Range second 1 (pos 5) (pos 9) ∷ [])
    ≡ reply.Rows (row 8 ∷ row 9 ∷ row 5 ∷ []) ∷ reply.Rows (row 8 ∷ [])
    ∷ reply.Rows (row 9 ∷ row 13 ∷ [])
    ∷ reply.Rows (row_of 8 (codes "b") ∷ row 5 ∷ row 13 ∷ [])
    ∷ reply.Rows [] ∷ reply.Rows [] ∷ [])

-- the parts that an event touches while all of these are held
abbrev pub held_parts_of : CoreEvent → List Name
held_parts_of event = filter (touched shape (part_at shape ranged) event) (names shape)

-- A range touches all shards of its table, and the bodies of its keys' candidates and of what its
-- transaction wrote of them.
abbrev pub RangesTouchParts : Type 0
RangesTouchParts =
    (parts_of (event.Range first 0 (pos 5) (pos 9)) ≡ map (ShardOf 0) (below 8))
    × (held_parts_of (event.Range second 0 (pos 5) (pos 9))
    ≡ map (ShardOf 0) (below 8) ++ BodyOf 0 0 ∷ [])
    × (held_parts_of (event.Range (whole ((place_at 0 (pos 5), place_of 1 0) ∷ [])) 0 (pos 5) (pos 5))
    ≡ map (ShardOf 0) (below 8) ++ BodyOf 0 0 ∷ BodyOf 0 1 ∷ [])
    × (held_parts_of (event.Range first 0 (pos 6) (pos 7)) ≡ map (ShardOf 0) (below 8))

-- A range changes nothing.
abbrev pub RangesChangeNothing : Type 0
RangesChangeNothing = effect shape ranged (event.Range first 0 (pos 5) (pos 9)) ≡ ranged

-- what session 1 wrote: key 6 of table 1; and its commit where it read this range of table 0
abbrev pub ranging : ℕ → ℕ → CoreEvent
ranging low high = event.Commit (whole ((place_at 1 (pos 6), 0) ∷ []))
    (Some (record (got [] [])
    { ranges = record { table = 0; low = pos low; high = pos high } ∷ [] }))

-- A commit is refused where a later commit wrote a key of a range, its upper end too; it touches
-- all shards of the range's table, and the bodies of its keys' candidates.
abbrev pub RangesAreStale : Type 0
RangesAreStale =
    (map (reply_to shape ranged) (ranging 9 13 ∷ ranging 5 12 ∷ [])
    ≡ reply.Stale (read.Range 0 (pos 9) (pos 13)) 3 ∷ reply.Committed (Some 1) ∷ [])
    × (held_parts_of (ranging 5 9)
    ≡ map (ShardOf 0) (below 8) ++ BodyOf 0 0 ∷ BodyOf 1 0 ∷ TheDesk ∷ [])
    × (held_parts_of (ranging 6 7) ≡ map (ShardOf 0) (below 8) ++ BodyOf 1 0 ∷ TheDesk ∷ [])
