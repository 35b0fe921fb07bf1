-- What an open session sees, whatever others and the upkeep do.
use Rattle.std.specs.Prelude.{◌≡◌, ◌≢◌, ℕ, ℤ, true, Some, AllPairs}
use Rattle.block_spec.specs.Bodies.{is_imaged, rows_of}
use Rattle.block_spec.specs.Slots.{Row, seen}
use Rattle.core_laws.specs.Events.Named.{FollowsMachine}
use Rattle.event_spec.specs.declared.event.Event.TheVariants as event
use Rattle.event_spec.specs.declared.own.OwnKey.{OwnKey}
use Rattle.event_spec.specs.declared.own.OwnTransaction.{OwnTransaction}
use Rattle.core_laws.specs.Frames.Shards.{ShardsHold}
use Rattle.event_spec.specs.Effects.{CoreEvent, effect, found, range_keys}
use Rattle.event_spec.specs.Judged.{own_key}
use Rattle.event_spec.specs.Lawful.{HasBlock, HasPlace, IsLawful, OwnsAll, session_of}
use Rattle.event_spec.specs.Parts.{Parts, Shape, body_at, desk_at, slot_at}
use Rattle.event_spec.specs.Replies.{row_read, rows_read}
use Rattle.event_spec.specs.Sound.{IsShape, Sound}
use Rattle.core_laws.specs.Following.Owned.{HasOpen}
use Rattle.isolation_spec.specs.Contents.{State, at_place, key_of, place_at, place_of}
use Rattle.isolation_spec.specs.Machine.{IsolationMachine, Transaction, seen_rows, transaction_of}
use Rattle.txn_desk.specs.declared.Snapshot.{Snapshot}

-- An event that is not the session's changes nothing that the session sees of any slot.
abbrev pub SeenStays : Type 0
SeenStays = (shape : Shape) (parts : Parts) (made : CoreEvent) (session : ℕ) (snapshot : Snapshot)
    → IsShape shape → Sound shape parts → IsLawful shape made parts
    → HasOpen (desk_at shape parts) session snapshot → session_of made ≢ Some session
    → (table place : ℕ)
    → seen (slot_at shape (effect shape parts made) table place) snapshot.stamp session
    ≡ seen (slot_at shape parts table place) snapshot.stamp session

-- A get, a read and a range change no part, so between two of its writes a session's own events
-- change nothing either.
abbrev pub LooksLeave : Type 0
LooksLeave = (shape : Shape) (parts : Parts)
    → ((own : OwnKey) (table : ℕ) (key : ℤ) → effect shape parts (event.Get own table key) ≡ parts)
    × ((own : OwnTransaction) (table block : ℕ) → effect shape parts (event.Read own table block)
    ≡ parts)
    × ((own : OwnTransaction) (table : ℕ) (low high : ℤ)
    → effect shape parts (event.Range own table low high) ≡ parts)

-- The rows that a session finds of the keys of a range are the machine's, and each key stands once.
pub record FindsEachOnce (shape : Shape) (parts : Parts) (own : OwnTransaction) (table : ℕ) (low high : ℤ) (rows : State) : Type 0 where
  pub shown : (key : ℤ) → found shape parts (own_key table key own) table key
      ≡ at_place rows (place_at table key)
  pub keyed : (key : ℤ) (row : Row) → found shape parts (own_key table key own) table key ≡ Some row
      → key_of row ≡ key
  pub once : AllPairs (λ one other. one ≢ other) (range_keys shape parts table low high)

abbrev pub RangesFindEachOnce : Type 0
RangesFindEachOnce = (shape : Shape) (parts : Parts) (own : OwnTransaction) (table : ℕ)
    (low high : ℤ) (machine : IsolationMachine) (open' : Transaction)
    → IsShape shape → Sound shape parts → ShardsHold shape parts → OwnsAll shape own parts
    → FollowsMachine shape parts machine
    → transaction_of own.session machine ≡ Some open'
    → FindsEachOnce shape parts own table low high (seen_rows machine open')

-- The session's reads of all blocks of a table hold the rows that it sees, each at one place: as a
-- read of the place's block gives it, which a shared image is as well.
pub record ReadsEachOnce (shape : Shape) (parts : Parts) (own : OwnTransaction) (table : ℕ) (rows : State) : Type 0 where
  pub no_other : (place : ℕ) (row : Row) → row_read shape parts own table place ≡ Some row
      → at_place rows (place_of table row) ≡ Some row
  pub all : (key : ℤ) (row : Row) → at_place rows (place_at table key) ≡ Some row
      → (place : ℕ) × HasPlace shape table place × (row_read shape parts own table place ≡ Some row)
      × (key_of row ≡ key)
  pub once : (one other : ℕ) (row another : Row)
      → row_read shape parts own table one ≡ Some row → row_read shape parts own table other
      ≡ Some another
      → key_of row ≡ key_of another → one ≡ other
  pub shared : (block : ℕ) → HasBlock shape table block
      → is_imaged (body_at shape parts table block).phase ≡ true
      → rows_read shape parts own table block ≡ rows_of (body_at shape parts table block)

-- What it sees are the rows of its transaction of the machine.
abbrev pub ReadsHoldEachRow : Type 0
ReadsHoldEachRow = (shape : Shape) (parts : Parts) (own : OwnTransaction) (table : ℕ)
    (machine : IsolationMachine) (open' : Transaction)
    → IsShape shape → Sound shape parts → OwnsAll shape own parts
    → FollowsMachine shape parts machine
    → transaction_of own.session machine ≡ Some open'
    → ReadsEachOnce shape parts own table (seen_rows machine open')
