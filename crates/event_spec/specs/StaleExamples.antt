-- Worked examples of commits of checked transactions, as facts.
use Rattle.std.specs.Prelude.{◌≡◌, ℕ, ◌==◌, ℤ, pos, List, [], ◌∷◌, Option, None, Some, map}
use Rattle.std.specs.Prelude.{replicate, option_to_list, if◌then◌else◌}
use Rattle.std.specs.List.{filter_map}
use Rattle.block_spec.specs.Slots.{Slot, bare, moved_in}
use Rattle.block_spec.specs.Examples.{settled}
use Rattle.event_spec.specs.declared.event.Event.TheVariants as event
use Rattle.event_spec.specs.declared.own.OwnTransaction.{OwnTransaction}
use Rattle.event_spec.specs.declared.reply.Reply.TheVariants as reply
use Rattle.event_spec.specs.Parts.{Parts, BodyOf, TheDesk, names, desk_at, each_changed}
use Rattle.event_spec.specs.Parts.{nothing}
use Rattle.event_spec.specs.Newest.{stale_by}
use Rattle.event_spec.specs.Effects.{CoreEvent, effect}
use Rattle.event_spec.specs.Examples.{shape, whole, old, laid, once_committed, twice_committed}
use Rattle.event_spec.specs.Examples.{parts_of}
use Rattle.event_spec.specs.Replies.{reply_to}
use Rattle.event_spec.specs.Replay.{opening}
use Rattle.isolation_spec.specs.Contents.{PlaceMap, at_place, place_at, is_in_range}
use Rattle.isolation_spec.specs.Reads.{ReadSet, no_reads}
use Rattle.isolation_spec.specs.declared.read.Read.{Read}
use Rattle.isolation_spec.specs.declared.read.Read.TheVariants as read

-- what a transaction read: keys of table 0, and tables
abbrev pub got : List ℕ → List ℕ → ReadSet
got keys tables = record no_reads {
  places = map (λ key. place_at 0 (pos key)) keys;
  tables = tables;
}

-- and the keys from 5 to 9 of table 0
abbrev pub with_range : ReadSet → ReadSet
with_range reads = record reads
    { ranges = record { table = 0; low = pos 5; high = pos 9 } ∷ [] }

-- ---- which reads are stale

-- the slots of keys 5 to 8 of table 0: one that commit 3 wrote with stamp 4, one that commit 5 wrote
-- besides with stamp 6, one without an entry, and one to which a move came with stamp 7
abbrev pub slots : List Slot
slots = once_committed ∷ twice_committed ∷ settled old ∷ moved_in 7 old bare ∷ []

abbrev pub index : PlaceMap ℕ
index = (place_at 0 (pos 5), 0) ∷ (place_at 0 (pos 6), 1) ∷ (place_at 0 (pos 7), 2)
    ∷ (place_at 0 (pos 8), 3) ∷ []

abbrev pub candidates : ℕ → ℤ → List ℕ
candidates table key = option_to_list (at_place index (place_at table key))

abbrev pub keys_in : ℕ → ℤ → ℤ → List ℤ
keys_in table low high = filter_map
    (λ entry. if is_in_range table low high entry.0 then Some entry.0.key else None)
    index

-- table 0 was last written by commit 5, and no other was
abbrev pub last_writer : ℕ → ℕ
last_writer table = if table == 0 then 5 else 0

-- what is stale of a transaction with a write that began at this stamp, before which so many commits
-- were
abbrev pub stale_at : ℕ → ℕ → ReadSet → Option (Read × ℕ)
stale_at stamp number reads = stale_by
    (λ table. laid slots)
    candidates
    keys_in
    last_writer
    (record { stamp = stamp; number = number })
    ((place_at 0 (pos 1), 9) ∷ [])
    (Some reads)

-- The first key with a later commit is named, with the last such commit; a move is none.
abbrev pub KeysAreStale : Type 0
KeysAreStale =
    (map (stale_at 3 2) (got (5 ∷ []) [] ∷ got (6 ∷ []) [] ∷ got (1 ∷ 5 ∷ 6 ∷ []) [] ∷ [])
    ≡ Some (read.Key 0 (pos 5), 3) ∷ Some (read.Key 0 (pos 6), 5) ∷ Some (read.Key 0 (pos 5), 3)
    ∷ [])
    × (stale_at 4 3 (got (5 ∷ 6 ∷ []) []) ≡ Some (read.Key 0 (pos 6), 5))
    × (map (stale_at 6 5) (got (5 ∷ 6 ∷ 7 ∷ 8 ∷ []) [] ∷ got [] (0 ∷ 1 ∷ []) ∷ [])
    ≡ None ∷ None ∷ [])

-- A table is stale where a later commit wrote any row of it; keys go before tables, and tables
-- before ranges.
abbrev pub TablesAreStale : Type 0
TablesAreStale =
    (map (stale_at 3 2) (got [] (0 ∷ 1 ∷ []) ∷ got (7 ∷ []) (0 ∷ []) ∷ got [] (1 ∷ []) ∷ [])
    ≡ Some (read.Table 0, 5) ∷ Some (read.Table 0, 5) ∷ None ∷ [])
    × (stale_at 3 2 (with_range (got (5 ∷ []) (0 ∷ []))) ≡ Some (read.Key 0 (pos 5), 3))
    × (stale_at 3 2 (with_range (got (7 ∷ []) (0 ∷ []))) ≡ Some (read.Table 0, 5))
    × (stale_at 3 2 (with_range (got (7 ∷ []) (1 ∷ [])))
    ≡ Some (read.Range 0 (pos 5) (pos 9), 5))

-- ---- whole events

-- Sessions 1 and 2 began, and then a commit with number 1 wrote table 0.
abbrev pub begun : Parts
begun = effect shape (effect shape (opening shape) (event.Begin 1)) (event.Begin 2)

abbrev pub later : Parts
later = each_changed
    (record nothing {
      desk = λ desk. record desk { newest = 1; commits = 1; wrote = 1 ∷ replicate 15 0 };
    })
    (names shape)
    begun

-- what session 1 wrote: key 6 of table 1
abbrev pub mine : OwnTransaction
mine = whole ((place_at 1 (pos 6), 0) ∷ [])

-- session 1's commit, where it read these tables
abbrev pub commits : List ℕ → CoreEvent
commits tables = event.Commit mine (Some (got [] tables))

-- A commit is refused where a read is stale. A plain one is not, nor one without writes.
abbrev pub StaleCommitsAreRefused : Type 0
StaleCommitsAreRefused =
    (map (reply_to shape later) (commits (0 ∷ []) ∷ commits (1 ∷ []) ∷ event.Commit mine None
    ∷ event.Commit (whole []) (Some (got [] (0 ∷ []))) ∷ [])
    ≡ reply.Stale (read.Table 0) 1 ∷ reply.Committed (Some 2) ∷ reply.Committed (Some 2)
    ∷ reply.Committed None ∷ [])

-- A refused commit leaves all as it was.
abbrev pub RefusalsChangeNothing : Type 0
RefusalsChangeNothing = effect shape later (commits (0 ∷ [])) ≡ later

-- A commit is the last that wrote its tables, and leaves those of other tables.
abbrev pub TablesHaveLastWriters : Type 0
TablesHaveLastWriters =
    ((desk_at shape begun).wrote ≡ replicate 16 0)
    × ((desk_at shape (effect shape later (event.Commit mine None))).wrote
    ≡ 1 ∷ 2 ∷ replicate 14 0)

-- A commit touches for the tables that were read no more than the desk, and without writes no more
-- for any read.
abbrev pub ReadsTouchParts : Type 0
ReadsTouchParts =
    (parts_of (commits (0 ∷ [])) ≡ BodyOf 1 0 ∷ TheDesk ∷ [])
    × (parts_of (event.Commit (whole []) (Some (got (5 ∷ []) []))) ≡ TheDesk ∷ [])
