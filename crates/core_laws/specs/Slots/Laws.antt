-- What is seen of a slot, what its changes keep, and what a write meets there.
use Rattle.std.specs.Prelude.{◌≡◌, ◌≢◌, ℕ, ◌+◌, ◌<◌, ◌≤◌, List, [], ◌∷◌, None, Some, length, max}
use Rattle.std.specs.List.{flat_map}
use Rattle.block_spec.specs.declared.change.Change.{Change}
use Rattle.block_spec.specs.Slots.{Slot, Row, bare, seen, laid_back, row_after, image_before}
use Rattle.block_spec.specs.Slots.{writer_of, written, committed, rolled_back, pruned, moved_out}
use Rattle.block_spec.specs.Slots.{moved_in, patched, columns_before}
use Rattle.event_spec.specs.Judged.{first_at, differences}
use Rattle.event_spec.specs.SlotSound.{IsSoundSlot}
use Rattle.undo_chain.specs.Conflict.{other_writer, numbers_above, largest, conflict_by}
use Rattle.undo_chain.specs.Conflict.{conflict_of}
use Rattle.undo_chain.specs.declared.chain.Newer.{Newer}
use Rattle.undo_chain.specs.declared.chain.Newer.TheVariants as newer
use Rattle.undo_chain.specs.Lawful.{IsLawful}

-- ---- what another session sees

-- the before-image of a write gives the row before it
abbrev pub IsUndone : Slot → Change → Type 0
IsUndone slot change = laid_back (row_after slot.row change) (image_before slot.row change)
    ≡ slot.row

-- A write by another session changes nothing that a session sees.
abbrev pub OthersWrite : Type 0
OthersWrite = (slot : Slot) (writer reader stamp : ℕ) (change : Change) → reader ≢ writer
    → IsUndone slot change
    → seen (written writer change slot) stamp reader ≡ seen slot stamp reader

-- Neither does its commit, at a stamp after the snapshot's.
abbrev pub OthersCommit : Type 0
OthersCommit = (slot : Slot) (writer reader stamp later number : ℕ) → reader ≢ writer
    → stamp < later
    → seen (committed writer later number slot) stamp reader ≡ seen slot stamp reader

-- Nor its roll-back.
abbrev pub OthersRollBack : Type 0
OthersRollBack = (slot : Slot) (writer reader stamp : ℕ) → reader ≢ writer → IsLawful slot.entries
    → seen (rolled_back writer slot) stamp reader ≡ seen slot stamp reader

-- A pruning by a stamp that is not after the snapshot's changes nothing either.
abbrev pub Pruning : Type 0
Pruning = (slot : Slot) (oldest reader stamp : ℕ) → oldest ≤ stamp → IsLawful slot.entries
    → seen (pruned oldest slot) stamp reader ≡ seen slot stamp reader

-- a slot with a row and no entry
abbrev pub plain : Row → Slot
plain row = record { row = Some row; entries = [] }

-- Before a move's stamp the row is seen where it was, and from it on where it went.
pub record Moving (row : Row) (moved stamp reader : ℕ) : Type 0 where
  pub source_before : stamp < moved → seen (moved_out moved row (plain row)) stamp reader ≡ Some row
  pub target_before : stamp < moved → seen (moved_in moved row bare) stamp reader ≡ None
  pub source_after : moved ≤ stamp → seen (moved_out moved row (plain row)) stamp reader ≡ None
  pub target_after : moved ≤ stamp → seen (moved_in moved row bare) stamp reader ≡ Some row

abbrev pub Moves : Type 0
Moves = (row : Row) (moved stamp reader : ℕ) → Moving row moved stamp reader

-- ---- what the writer makes

-- The writer sees the current row, whatever its snapshot.
abbrev pub WritersSee : Type 0
WritersSee = (slot : Slot) (writer stamp : ℕ) → IsLawful slot.entries → writer_of slot.entries
    ≡ Some writer
    → seen slot stamp writer ≡ slot.row

-- From its commit's stamp on everybody does.
abbrev pub CommitsShow : Type 0
CommitsShow = (slot : Slot) (writer at number stamp : ℕ) → IsLawful slot.entries
    → writer_of slot.entries ≡ Some writer → at ≤ stamp
    → seen (committed writer at number slot) stamp 0 ≡ slot.row

-- An update puts the new row, and its before-image gives the old one back.
pub record Updating (old new : Row) : Type 0 where
  pub put : patched old (differences 0 old new) ≡ new
  pub undone : patched new (columns_before old (differences 0 old new)) ≡ old

abbrev pub Updates : Type 0
Updates = (old new : Row) → length old ≡ length new → Updating old new

-- ---- what keeps a slot sound

-- A write does where no other session's entry stands, as do the other changes.
abbrev pub WritesKeep : Type 0
WritesKeep = (slot : Slot) (session newest commits : ℕ) (change : Change) → 1 ≤ session
    → ((writer : ℕ) → writer_of slot.entries ≡ Some writer → writer ≡ session)
    → IsSoundSlot newest commits slot → IsSoundSlot newest commits (written session change slot)

abbrev pub CommitsKeep : Type 0
CommitsKeep = (slot : Slot) (session newest commits : ℕ) → IsSoundSlot newest commits slot
    → IsSoundSlot (newest + 1) (commits + 1) (committed session (newest + 1) (commits + 1) slot)

abbrev pub RollBacksKeep : Type 0
RollBacksKeep = (slot : Slot) (session newest commits : ℕ) → IsSoundSlot newest commits slot
    → IsSoundSlot newest commits (rolled_back session slot)

abbrev pub PruningsKeep : Type 0
PruningsKeep = (slot : Slot) (oldest newest commits : ℕ) → IsSoundSlot newest commits slot
    → IsSoundSlot newest commits (pruned oldest slot)

-- ---- what a write meets over several slots

-- A session's open write goes first, the first of several, and then the largest number.
abbrev pub combined : Newer → Newer → Newer
combined (newer.Session writer) other = newer.Session writer
combined newer.Nothing other = other
combined (newer.Number number) (newer.Session writer) = newer.Session writer
combined (newer.Number number) (newer.Number other) = newer.Number (max number other)
combined (newer.Number number) newer.Nothing = newer.Number number

-- what a write meets slot by slot
abbrev pub combined_over : (ℕ → Slot) → List ℕ → ℕ → ℕ → Newer
combined_over slot [] stamp session = newer.Nothing
combined_over slot (place ∷ places) stamp session =
    combined (conflict_of (slot place).entries stamp session)
    (combined_over slot places stamp session)

-- A write of a key meets what it meets at each of the key's slots, combined in turn.
abbrev pub MeetsInTurn : Type 0
MeetsInTurn = (slot : ℕ → Slot) (places : List ℕ) (stamp session : ℕ)
    → conflict_by
    (first_at (λ place. other_writer (slot place).entries session) places)
    (largest (flat_map (λ place. numbers_above (slot place).entries stamp) places))
    ≡ combined_over slot places stamp session
