-- What a session has open, and which events are lawful.
use Rattle.std.specs.Prelude.{◌≡◌, ◌≢◌, ◌⊎◌, ◌↔◌, ⊤, ℕ, zero, suc, ◌+◌, ◌<◌, ◌≤◌, ◌^◌, ℤ, Bool}
use Rattle.std.specs.Prelude.{true, false, List, [], ◌∷◌, ◌++◌, Option, None, Some, IsSomeAnd}
use Rattle.std.specs.Prelude.{IfSome, option_map, map, length, slice_get, All, AllPairs}
use Rattle.std.specs.Prelude.{if◌then◌else◌}
use Rattle.std.specs.List.{flat_map, filter_map}
use Rattle.block_layout.specs.Place.{place_of, block_of, slot_of}
use Rattle.block_spec.specs.declared.change.Before.{Before}
use Rattle.block_spec.specs.declared.phase.Phase.{Phase}
use Rattle.block_spec.specs.declared.phase.Phase.TheVariants.{Loose, Sealed, Imaged}
use Rattle.block_spec.specs.Slots.{Row, Slot, laid_back, writer_of}
use Rattle.block_spec.specs.Bodies.{Body, is_writer, is_imaged, rows_of}
use Rattle.cell_model.specs.Rows.{Fits}
use Rattle.event_spec.specs.declared.event.Event.TheVariants as event
use Rattle.event_spec.specs.declared.event.MovePair.{MovePair}
use Rattle.event_spec.specs.declared.own.OwnKey.{OwnKey}
use Rattle.event_spec.specs.declared.own.OwnTransaction.{OwnTransaction}
use Rattle.event_spec.specs.declared.reply.Reply.TheVariants as reply
use Rattle.event_spec.specs.Parts.{Parts, Shape, body_at, desk_at, slot_at, places_at, blocks_of}
use Rattle.event_spec.specs.Parts.{slots_of, tables_of, below}
use Rattle.event_spec.specs.Judged.{current_place}
use Rattle.event_spec.specs.Effects.{CoreEvent}
use Rattle.event_spec.specs.Replies.{CoreReply}
use Rattle.isolation_spec.specs.Contents.{at_place, place_at, key_of}
use Rattle.isolation_spec.specs.Reads.{ReadSet}
use Rattle.isolation_spec.specs.declared.place.Place.{Place}
use Rattle.isolation_spec.specs.declared.read.KeyRange.{KeyRange}
use Rattle.txn_desk.specs.declared.Snapshot.{Snapshot}
use Rattle.txn_desk.specs.Oldest.{snapshot_of, oldest_of}
use Rattle.undo_chain.specs.declared.undo.Undo.{Undo}

abbrev pub Among : {X : Type 0} → X → List X → Type 0
Among x [] = ⊥
Among x (y ∷ ys) = (x ≡ y) ⊎ Among x ys

-- ---- what a session has open

-- A row that a session wrote: its table, its key and the place of the slot on which the session's
-- entries stand.
pub record Write : Type 0 where
  pub table : ℕ
  pub key : ℤ
  pub place : ℕ

-- An open transaction: its snapshot and what it wrote.
pub record Opened : Type 0 where
  pub snapshot : Snapshot
  pub writes : List Write

-- the key of a slot: that of its newest version with a row
abbrev pub slot_key : Option Row → List (Undo Before) → Option ℤ
slot_key (Some row) entries = Some (key_of row)
slot_key None [] = None
slot_key None (e ∷ es) = slot_key (laid_back None e.before) es

abbrev pub write_of : ℕ → ℕ → ℤ → Write
write_of table place key = record { table = table; key = key; place = place }

abbrev pub write_on : ℕ → ℕ → ℕ → Slot → Option Write
write_on session table place slot =
    if is_writer session (writer_of slot.entries)
    then option_map (write_of table place) (slot_key slot.row slot.entries)
    else None

module _ (shape : Shape) (parts : Parts) where
  -- What a session wrote, by tables, blocks and slots, whose numbers no event changes.
  abbrev pub writes_in : ℕ → ℕ → ℕ → List Write
  writes_in session table block = filter_map
      (λ slot. write_on session table (place_of block slot)
      (slot_at shape parts table (place_of block slot)))
      (below (slots_of shape table))

  abbrev pub writes_of : ℕ → List Write
  writes_of session =
      flat_map (λ table. flat_map (writes_in session table) (below (blocks_of shape table)))
      (tables_of shape)

  -- The open transaction of a session. Sessions are counted from 1, so 0 has none.
  abbrev pub transaction : ℕ → Option Opened
  transaction zero = None
  transaction (suc n) =
      option_map (λ snapshot. record { snapshot = snapshot; writes = writes_of (suc n) })
      (snapshot_of (desk_at shape parts) (suc n))

  -- The transaction handed in for a key is what the session has open: its snapshot, and the place
  -- of its own write of the key.
  pub record IsOwnKey (own : OwnKey) (table : ℕ) (key : ℤ) (has : Opened) : Type 0 where
    pub snapshot : own.snapshot ≡ has.snapshot
    pub written : (place : ℕ) → (own.written ≡ Some place) ↔ Among (write_of table place key)
        has.writes

  -- The transaction handed in is what the session has open: its snapshot, and the place of each row
  -- that it wrote.
  pub record IsOwn (own : OwnTransaction) (has : Opened) : Type 0 where
    pub snapshot : own.snapshot ≡ has.snapshot
    pub writes : (table : ℕ) (key : ℤ) (place : ℕ)
        → (at_place own.writes (place_at table key) ≡ Some place) ↔ Among (write_of table place key)
        has.writes

-- ---- lawful events

abbrev pub IsSession : Shape → ℕ → Type 0
IsSession shape session = (1 ≤ session) × (session ≤ shape.passes)

abbrev pub HasTable : Shape → ℕ → Type 0
HasTable shape table = table < length shape.tables

abbrev pub HasBlock : Shape → ℕ → ℕ → Type 0
HasBlock shape table block = HasTable shape table × (block < blocks_of shape table)

abbrev pub HasPlace : Shape → ℕ → ℕ → Type 0
HasPlace shape table place = HasBlock shape table (block_of place)
    × (slot_of place < slots_of shape table)

abbrev pub FitsTable : Shape → ℕ → Row → Type 0
FitsTable shape table row = IfSome (slice_get shape.tables table) (λ decl. Fits decl.schema row)

-- The event's session has a transaction open, and it is the one handed in.
abbrev pub OwnsKey : Shape → OwnKey → ℕ → ℤ → Parts → Type 0
OwnsKey shape own table key parts =
    IsSession shape own.session × IsSomeAnd (transaction shape parts own.session)
    (IsOwnKey shape parts own table key)

abbrev pub OwnsAll : Shape → OwnTransaction → Parts → Type 0
OwnsAll shape own parts =
    IsSession shape own.session × IsSomeAnd (transaction shape parts own.session)
    (IsOwn shape parts own)

-- No live snapshot is below the stamp, nor, where none is live, the newest stamp; in a sound state
-- none ever will be. An `oldest` teaches it of its reply.
abbrev pub IsOldest : Shape → ℕ → Parts → Type 0
IsOldest shape oldest parts = oldest ≤ oldest_of (desk_at shape parts)

abbrev pub Teaches : CoreEvent → CoreReply → ℕ → Type 0
Teaches event.Oldest (reply.Oldest oldest) fact = fact ≡ oldest
Teaches _ said fact = ⊥

-- What an event asks of its session's open transaction and of lasting facts.
abbrev pub Stands : Shape → CoreEvent → Parts → Type 0
Stands shape (event.Begin session) parts = IsSession shape session
    × (transaction shape parts session ≡ None)
Stands shape (event.Get own table key) parts = OwnsKey shape own table key parts
Stands shape (event.Insert own table row) parts = OwnsKey shape own table (key_of row) parts
Stands shape (event.Update own table row) parts = OwnsKey shape own table (key_of row) parts
Stands shape (event.Delete own table key) parts = OwnsKey shape own table key parts
Stands shape (event.Read own table block) parts = OwnsAll shape own parts
Stands shape (event.Range own table low high) parts = OwnsAll shape own parts
Stands shape (event.Commit own reads) parts = OwnsAll shape own parts
Stands shape (event.Abort own) parts = OwnsAll shape own parts
Stands shape event.Oldest parts = ⊤
Stands shape (event.Observe table block) parts = ⊤
Stands shape (event.Prune table block oldest) parts = IsOldest shape oldest parts
Stands shape (event.Look table block) parts = ⊤
Stands shape (event.Move table moves) parts = ⊤
Stands shape (event.Seal table block) parts = ⊤
Stands shape (event.Image table block image) parts = ⊤
Stands shape (event.Thaw table block) parts = ⊤

-- no place stands in a list of pairs twice, be it left or filled
abbrev pub NoPlaceTwice : List MovePair → Type 0
NoPlaceTwice pairs =
    AllPairs (λ one other. one ≢ other)
    (map (λ (pair : MovePair). pair.source) pairs
    ++ map (λ (pair : MovePair). pair.target) pairs)

-- An image is of a sealed body's rows, and none is handed in where the body isn't sealed.
abbrev pub IsImageOf : Option (List Row) → Body → Phase → Type 0
IsImageOf image body Loose = image ≡ None
IsImageOf image body (Sealed stamp) = image ≡ Some (rows_of body)
IsImageOf image body (Imaged stamp) = image ≡ None

-- The stamps end below 2 ^ 63, and one is left.
abbrev pub HasStamp : Shape → Parts → Type 0
HasStamp shape parts = (desk_at shape parts).newest + 1 < 2 ^ 63

-- The block of the key's current row, where there is one, is not imaged: a write to it has to thaw
-- it first.
abbrev pub IsThawed : Shape → ℕ → ℤ → Parts → Type 0
IsThawed shape table key parts = IfSome
    (current_place (slot_at shape parts table) (places_at shape parts table key))
    (λ place. is_imaged (body_at shape parts table (block_of place)).phase ≡ false)

-- Each read names a table that is there.
pub record HasReads (shape : Shape) (reads : ReadSet) : Type 0 where
  pub places : All (λ (place : Place). HasTable shape place.table) reads.places
  pub tables : All (HasTable shape) reads.tables
  pub ranges : All (λ (range : KeyRange). HasTable shape range.table) reads.ranges

-- What an event asks of the parts that it touches.
abbrev pub FitsIn : Shape → CoreEvent → Parts → Type 0
FitsIn shape (event.Begin session) parts = ⊤
FitsIn shape (event.Get own table key) parts = HasTable shape table
FitsIn shape (event.Insert own table row) parts = HasTable shape table × FitsTable shape table row
FitsIn shape (event.Update own table row) parts =
    HasTable shape table × FitsTable shape table row × IsThawed shape table (key_of row) parts
FitsIn shape (event.Delete own table key) parts = HasTable shape table
    × IsThawed shape table key parts
FitsIn shape (event.Read own table block) parts = HasBlock shape table block
FitsIn shape (event.Range own table low high) parts = HasTable shape table
FitsIn shape (event.Commit own reads) parts = HasStamp shape parts × IfSome reads (HasReads shape)
FitsIn shape (event.Abort own) parts = ⊤
FitsIn shape event.Oldest parts = ⊤
FitsIn shape (event.Observe table block) parts = HasBlock shape table block
FitsIn shape (event.Prune table block oldest) parts = HasBlock shape table block
FitsIn shape (event.Look table block) parts = HasBlock shape table block
FitsIn shape (event.Move table moves) parts =
    HasTable shape table
    × All (λ (pair : MovePair). HasPlace shape table pair.source × HasPlace shape table pair.target)
    moves
    × NoPlaceTwice moves
    × HasStamp shape parts
FitsIn shape (event.Seal table block) parts = HasBlock shape table block
FitsIn shape (event.Image table block image) parts =
    HasBlock shape table block × IsImageOf image (body_at shape parts table block)
    (body_at shape parts table block).phase
FitsIn shape (event.Thaw table block) parts =
    HasBlock shape table block × (is_imaged (body_at shape parts table block).phase ≡ true)

-- An event is lawful in a state.
abbrev pub IsLawful : Shape → CoreEvent → Parts → Type 0
IsLawful shape event parts = Stands shape event parts × FitsIn shape event parts

-- The session that an event is of.
abbrev pub session_of : CoreEvent → Option ℕ
session_of (event.Begin session) = Some session
session_of (event.Get own table key) = Some own.session
session_of (event.Insert own table row) = Some own.session
session_of (event.Update own table row) = Some own.session
session_of (event.Delete own table key) = Some own.session
session_of (event.Read own table block) = Some own.session
session_of (event.Range own table low high) = Some own.session
session_of (event.Commit own reads) = Some own.session
session_of (event.Abort own) = Some own.session
session_of event.Oldest = None
session_of (event.Observe table block) = None
session_of (event.Prune table block oldest) = None
session_of (event.Look table block) = None
session_of (event.Move table moves) = None
session_of (event.Seal table block) = None
session_of (event.Image table block image) = None
session_of (event.Thaw table block) = None

-- What an event hands in of its transaction's reads: a commit does where that is checked.
abbrev pub reads_handed : CoreEvent → Option ReadSet
reads_handed (event.Begin session) = None
reads_handed (event.Get own table key) = None
reads_handed (event.Insert own table row) = None
reads_handed (event.Update own table row) = None
reads_handed (event.Delete own table key) = None
reads_handed (event.Read own table block) = None
reads_handed (event.Range own table low high) = None
reads_handed (event.Commit own reads) = reads
reads_handed (event.Abort own) = None
reads_handed event.Oldest = None
reads_handed (event.Observe table block) = None
reads_handed (event.Prune table block oldest) = None
reads_handed (event.Look table block) = None
reads_handed (event.Move table moves) = None
reads_handed (event.Seal table block) = None
reads_handed (event.Image table block image) = None
reads_handed (event.Thaw table block) = None

-- Whether an event takes memory, for want of which alone it may be refused.
abbrev pub takes_memory : CoreEvent → Bool
takes_memory (event.Begin session) = false
takes_memory (event.Get own table key) = true
takes_memory (event.Insert own table row) = true
takes_memory (event.Update own table row) = true
takes_memory (event.Delete own table key) = true
takes_memory (event.Read own table block) = true
takes_memory (event.Range own table low high) = true
takes_memory (event.Commit own reads) = false
takes_memory (event.Abort own) = false
takes_memory event.Oldest = false
takes_memory (event.Observe table block) = false
takes_memory (event.Prune table block oldest) = false
takes_memory (event.Look table block) = true
takes_memory (event.Move table moves) = true
takes_memory (event.Seal table block) = false
takes_memory (event.Image table block image) = true
takes_memory (event.Thaw table block) = true
