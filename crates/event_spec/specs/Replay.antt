-- The opening core, and what a list of events leaves and replies.
use Rattle.std.specs.Prelude.{◌≡◌, ⊤, ℕ, zero, suc, ◌+◌, ◌*◌, ◌/◌, ◌%◌, ℤ, Bool, true, not, ◌==◌}
use Rattle.std.specs.Prelude.{nat_lt, List, [], ◌∷◌, None, map, filter, fold, length, replicate}
use Rattle.std.specs.Prelude.{if◌then◌else◌}
use Rattle.std.specs.FinMap as finite
use Rattle.block_layout.specs.Place.{place_of}
use Rattle.block_spec.specs.Bodies.{Body, untouched}
use Rattle.block_spec.specs.Slots.{Row}
use Rattle.cell_model.specs.declared.column.Column.{Column}
use Rattle.cell_model.specs.declared.table.TableDecl.{TableDecl}
use Rattle.event_spec.specs.declared.part.Head.{Head}
use Rattle.event_spec.specs.declared.part.Part.TheVariants as part
use Rattle.event_spec.specs.declared.reply.Reply.TheVariants as reply
use Rattle.event_spec.specs.Parts.{CorePart, Parts, Shape, Name, HeadOf, ShardOf, BodyOf, TheDesk}
use Rattle.event_spec.specs.Parts.{names, below, blocks_of, slots_of, shard_of}
use Rattle.event_spec.specs.Effects.{CoreEvent, effect}
use Rattle.event_spec.specs.Replies.{CoreReply, reply_to}
use Rattle.event_spec.specs.Lawful.{IsLawful, takes_memory}
use Rattle.isolation_spec.specs.Contents.{History, key_of, rows_left}
use Rattle.isolation_spec.specs.declared.read.Read.TheVariants as read
use Rattle.isolation_spec.specs.Reads.{last_meeting}
use Rattle.key_index.specs.Candidates.{Places}
use Rattle.txn_desk.specs.Desk.{DeskState}
use Rattle.std.specs.Prelude.{option_map, unwrap_or, slice_get}

-- a table's columns
abbrev pub columns_in : Shape → ℕ → List Column
columns_in shape table = unwrap_or
    (option_map (λ (decl : TableDecl). decl.schema) (slice_get shape.tables table)) []

-- ---- the core before the first event

-- The rows of a table that the first commits leave. They stand in the table's first slots, one in
-- each, in the order of their keys.
abbrev pub rows_first : Shape → ℕ → List Row
rows_first shape table = rows_left shape.first table

-- A head over so many rows: the block of the last one takes inserts, and those above it are empty;
-- without rows block 0 takes them, and the others are empty.
abbrev pub opening_head : ℕ → ℕ → ℕ → Head
opening_head blocks slots zero =
    record {
      block = 0;
      taken = 0;
      inserts = 0;
      empty = filter (λ block. not (block == 0)) (below blocks);
    }
opening_head blocks slots (suc before) =
    record {
      block = before / slots;
      taken = before % slots + 1;
      inserts = suc before;
      empty = filter (nat_lt (before / slots)) (below blocks);
    }

-- the keys of rows, each with the place of its slot, from the slot of this number on
abbrev pub places_from : ℕ → ℕ → List Row → List (ℤ × List ℕ)
places_from slots number [] = []
places_from slots number (row ∷ rows) =
    (key_of row, place_of (number / slots) (number % slots) ∷ [])
    ∷ places_from slots (number + 1) rows

-- A shard over rows: the place of each row whose key is the shard's.
abbrev pub opening_shard : ℕ → ℕ → List Row → Places
opening_shard slots shard rows = finite.from_entries
    (filter (λ entry. shard_of entry.0 == shard) (places_from slots 0 rows))

-- A body over rows: in each slot its row, if there is one, and no entry.
abbrev pub opening_body : List Column → ℕ → List Row → ℕ → Body
opening_body columns slots rows block = record (untouched columns slots) {
  slots = map (λ slot. record { row = slice_get rows (block * slots + slot); entries = [] })
      (below slots);
}

-- the number of the last of some commits that wrote a table, 0 where none did
abbrev pub last_writer : History → ℕ → ℕ
last_writer commits table = unwrap_or (last_meeting commits 0 (read.Table table)) 0

-- A desk behind some commits: it has given out no stamp, and nothing is open.
abbrev pub opening_desk : History → ℕ → DeskState
opening_desk commits passes =
    record {
      newest = 0;
      commits = length commits;
      open_snapshots = replicate passes None;
      wrote = map (last_writer commits) (below 16);
    }

abbrev pub opening_part : Shape → Name → CorePart
opening_part shape (HeadOf table) = part.Head
    (opening_head (blocks_of shape table) (slots_of shape table) (length (rows_first shape table)))
opening_part shape (ShardOf table shard) = part.Shard
    (opening_shard (slots_of shape table) shard (rows_first shape table))
opening_part shape (BodyOf table block) = part.Body
    (opening_body (columns_in shape table) (slots_of shape table) (rows_first shape table) block)
opening_part shape TheDesk = part.Desk (opening_desk shape.first shape.passes)

-- The core before the first event: the rows of its first commits have no entry, all other slots are
-- bare, and nothing is open.
abbrev pub opening : Shape → Parts
opening shape = map (opening_part shape) (names shape)

-- ---- logs

-- An event that was made, and whether it was refused memory.
pub record Made : Type 0 where
  pub event : CoreEvent
  pub refused : Bool

-- An event that was refused memory changes nothing, and replies so.
abbrev pub after : Shape → Parts → Made → Parts
after shape parts made = if made.refused then parts else effect shape parts made.event

abbrev pub reply_after : Shape → Parts → Made → CoreReply
reply_after shape parts made = if made.refused then reply.Memory
    else reply_to shape parts made.event

-- The parts that a log of events leaves.
abbrev pub replay : Shape → List Made → Parts
replay shape log = fold (after shape) (opening shape) log

-- the replies of a log from a state on
abbrev pub replies_from : Shape → Parts → List Made → List CoreReply
replies_from shape parts [] = []
replies_from shape parts (made ∷ log) = reply_after shape parts made ∷ replies_from shape
    (after shape parts made) log

-- Each event of a log is lawful where it is made, and one that takes no memory is not refused.
abbrev pub IsLawfulFrom : Shape → Parts → List Made → Type 0
IsLawfulFrom shape parts [] = ⊤
IsLawfulFrom shape parts (made ∷ log) =
    IsLawful shape made.event parts
    × (made.refused ≡ true → takes_memory made.event ≡ true)
    × IsLawfulFrom shape (after shape parts made) log

abbrev pub IsLawfulLog : Shape → List Made → Type 0
IsLawfulLog shape log = IsLawfulFrom shape (opening shape) log
