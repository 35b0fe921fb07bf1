-- What a transaction finds of a key, where its write of it goes, and what stands in the way.
use Rattle.std.specs.Prelude.{ℕ, ◌+◌, ℤ, Bool, true, false, not, List, [], ◌∷◌, Option, None, Some}
use Rattle.std.specs.Prelude.{is_some, is_none, option_and_then, nat_lt, bytes_eq, Result, Ok, Err}
use Rattle.std.specs.Prelude.{if◌then◌else◌}
use Rattle.std.specs.List.{flat_map}
use Rattle.std.specs.Option.{option_or}
use Rattle.std.specs.Ordering.{int_eq}
use Rattle.block_layout.specs.Place.{place_of, block_of}
use Rattle.block_spec.specs.declared.phase.Phase.{Phase}
use Rattle.block_spec.specs.declared.phase.Phase.TheVariants.{Loose, Sealed, Imaged}
use Rattle.block_spec.specs.Slots.{Slot, Row, Patch, seen}
use Rattle.cell_model.specs.declared.cell.Cell.{Cell}
use Rattle.cell_model.specs.declared.cell.Cell.TheVariants.{Null, Num, Truth, Text, Blob}
use Rattle.event_spec.specs.declared.own.OwnKey.{OwnKey}
use Rattle.event_spec.specs.declared.own.OwnTransaction.{OwnTransaction}
use Rattle.event_spec.specs.declared.part.Head.{Head}
use Rattle.event_spec.specs.declared.reply.WriteFault.{WriteFault}
use Rattle.event_spec.specs.declared.reply.WriteFault.TheVariants.{ConflictSession, ConflictCommit}
use Rattle.event_spec.specs.declared.reply.WriteFault.TheVariants.{Exists, Missing, Freezing, Full}
use Rattle.isolation_spec.specs.Contents.{at_place, place_at}
use Rattle.undo_chain.specs.declared.chain.Newer.{Newer}
use Rattle.undo_chain.specs.declared.chain.Newer.TheVariants as newer
use Rattle.undo_chain.specs.Conflict.{other_writer, numbers_above, largest, conflict_by}

-- what an event on one key is handed of a transaction
abbrev pub own_key : ℕ → ℤ → OwnTransaction → OwnKey
own_key table key own = record {
  session = own.session;
  snapshot = own.snapshot;
  written = at_place own.writes (place_at table key);
}

-- the first answer of some places
abbrev pub first_at : {X : Type 0} → (ℕ → Option X) → List ℕ → Option X
first_at answer [] = None
first_at answer (place ∷ places) = option_or (answer place) (first_at answer places)

abbrev pub fault_of : Newer → Option WriteFault
fault_of newer.Nothing = None
fault_of (newer.Session writer) = Some (ConflictSession writer)
fault_of (newer.Number number) = Some (ConflictCommit number)

-- in a table with these slots, and a key with these candidates
module _ (slot : ℕ → Slot) (places : List ℕ) where
  abbrev pub found_at : OwnKey → Option ℕ → Option Row
  found_at own (Some written) = seen (slot written) own.snapshot.stamp own.session
  found_at own None = first_at (λ place. seen (slot place) own.snapshot.stamp own.session) places

  -- The row of a key: the transaction's own write of it, else what a candidate shows at its
  -- snapshot.
  abbrev pub found_by : OwnKey → Option Row
  found_by own = found_at own own.written

  -- What a write of the key meets: another session's uncommitted write, else the newest commit
  -- above the snapshot.
  abbrev pub newer_by : OwnKey → Newer
  newer_by own = conflict_by
      (first_at (λ place. other_writer (slot place).entries own.session) places)
      (largest (flat_map (λ place. numbers_above (slot place).entries own.snapshot.stamp) places))

  -- Where the key's current row lies, if it has one. It need not be the row that the session's
  -- snapshot shows.
  abbrev pub current_place : Option ℕ
  current_place = first_at (λ place. if is_some (slot place).row then Some place else None) places

-- The least block without row and entry gives its first slot.
abbrev pub first_of_blocks : List ℕ → Option ℕ
first_of_blocks [] = None
first_of_blocks (block ∷ blocks) = Some (place_of block 0)

-- The slot that an insert takes: the head's next one, else the first of the least other block
-- without row and entry.
abbrev pub next_place : Head → ℕ → Option ℕ
next_place head slots =
    if nat_lt head.taken slots then Some (place_of head.block head.taken)
    else first_of_blocks head.empty

-- A sealed body refuses writes.
abbrev pub freezing_of : ℕ → Phase → Option WriteFault
freezing_of block Loose = None
freezing_of block (Sealed stamp) = Some (Freezing block stamp)
freezing_of block (Imaged stamp) = None

-- A write goes to a place, or it is refused: by this fault if there is one, and by the other where
-- there is no place.
abbrev pub judged : Option WriteFault → Option ℕ → WriteFault → Result ℕ WriteFault
judged (Some fault) place otherwise = Err fault
judged None None otherwise = Err otherwise
judged None (Some place) otherwise = Ok place

-- An insert: a conflict goes first, then the key has a row, then the table is full. The slot is
-- that of the transaction's own write of the key, else the next one.
abbrev pub judged_insert : (ℕ → Slot) → List ℕ → Head → ℕ → OwnKey → Result ℕ WriteFault
judged_insert slot places head slots own = judged
    (option_or
    (fault_of (newer_by slot places own))
    (if is_some (found_by slot places own) then Some Exists else None))
    (option_or own.written (next_place head slots))
    (Full head.inserts)

-- An update or a delete: a conflict goes first, then the key has no row, then the block of its
-- current row is sealed. The slot is that of the current row.
abbrev pub judged_change : (ℕ → Slot) → List ℕ → (ℕ → Phase) → OwnKey → Result ℕ WriteFault
judged_change slot places phase own = judged
    (option_or
    (fault_of (newer_by slot places own))
    (if is_none (found_by slot places own) then Some Missing
    else option_and_then
    (λ place. freezing_of (block_of place) (phase (block_of place)))
    (current_place slot places)))
    (current_place slot places)
    Missing

abbrev pub same_truth : Bool → Bool → Bool
same_truth true other = other
same_truth false other = not other

-- two cells are one value
abbrev pub same_cell : Cell → Cell → Bool
same_cell Null Null = true
same_cell Null _ = false
same_cell (Num number) (Num other) = int_eq number other
same_cell (Num number) _ = false
same_cell (Truth truth) (Truth other) = same_truth truth other
same_cell (Truth truth) _ = false
same_cell (Text text) (Text other) = bytes_eq text other
same_cell (Text text) _ = false
same_cell (Blob bytes) (Blob other) = bytes_eq bytes other
same_cell (Blob bytes) _ = false

-- The attributes in which a new row differs from an old one, from column `at` on.
abbrev pub differences : ℕ → Row → Row → Patch
differences at [] new = []
differences at (cell ∷ cells) [] = []
differences at (cell ∷ cells) (new ∷ others) =
    if same_cell cell new then differences (at + 1) cells others
    else record { column = at; cell = new } ∷ differences (at + 1) cells others
