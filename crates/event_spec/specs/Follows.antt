-- What holds between the slots, the index and the desk on one side, and the snapshot-isolation
-- machine on the other.
use Rattle.std.specs.Prelude.{◌≡◌, ◌⊎◌, ℕ, ◌<◌, ◌≤◌, ℤ, Bool, true, false, ◌||◌, List, [], ◌∷◌, Option}
use Rattle.std.specs.Prelude.{None, Some, is_some, unwrap_or, length, All, find, ◌==◌, IfSome}
use Rattle.std.specs.List.{last_or}
use Rattle.block_spec.specs.Slots.{Slot, Row, seen, is_bare, writer_of}
use Rattle.event_spec.specs.Lawful.{Among}
use Rattle.event_spec.specs.SlotSound.{Keyed, IsSoundSlot}
use Rattle.isolation_spec.specs.Contents.{at_place, State, History, state_at}
use Rattle.isolation_spec.specs.Contents.{place_at, place_of}
use Rattle.isolation_spec.specs.Machine.{IsolationMachine, Transaction, transaction_of}
use Rattle.isolation_spec.specs.Machine.{later_writers}
use Rattle.isolation_spec.specs.Order.{InOrder}
use Rattle.isolation_spec.specs.Reads.{last_meeting}
use Rattle.isolation_spec.specs.declared.read.Read.TheVariants as read
use Rattle.txn_desk.specs.declared.Snapshot.{Snapshot}
use Rattle.txn_desk.specs.Desk.{DeskState, wrote_table}
use Rattle.txn_desk.specs.Oldest.{snapshot_of}
use Rattle.undo_chain.specs.Lawful.{NoneStampedAbove}
use Rattle.undo_chain.specs.Conflict.{numbers_above}

-- A snapshot that somebody may read at: the newest, or that of an open transaction.
abbrev pub IsLive : DeskState → ℕ → ℕ → Type 0
IsLive desk stamp number =
    ((stamp ≡ desk.newest) × (number ≡ desk.commits))
    ⊎ ((session : ℕ) × (1 ≤ session)
    × (snapshot_of desk session ≡ Some (record { stamp = stamp; number = number })))

-- a slot has a row, or an uncommitted entry
abbrev pub is_current : Slot → Bool
is_current slot = is_some slot.row || is_some (writer_of slot.entries)

-- A slot is older than another of its key: it has no row and no uncommitted entry, and none of its
-- stamps is above one of the other's.
pub record IsOlder (one other : Slot) : Type 0 where
  pub settled : is_current one ≡ false
  pub stamps : All (λ undo. IfSome undo.stamp (NoneStampedAbove one.entries)) other.entries

-- one place stands in front of another in a list
abbrev pub StandsBefore : ℕ → ℕ → List ℕ → Type 0
StandsBefore one other [] = ⊥
StandsBefore one other (place ∷ places) = ((one ≡ place) × Among other places)
    ⊎ StandsBefore one other places

-- each session has one open transaction at most
abbrev pub OneEach : List Transaction → Type 0
OneEach [] = Unit {0}
OneEach (first ∷ rest) = (find (λ other. other.session == first.session) rest ≡ None) × OneEach rest

-- over the slot of each table and place, and the candidates of each table and key
module _ (slot : ℕ → ℕ → Slot) (places : ℕ → ℤ → List ℕ) where
  -- What is committed up to a stamp is seen by nobody's session, the session 0: each row at one
  -- place, and once.
  pub record Shows (stamp : ℕ) (rows : State) : Type 0 where
    pub there : (table place : ℕ) (row : Row)
        → seen (slot table place) stamp 0 ≡ Some row → at_place rows (place_of table row) ≡ Some row
    pub all : (table : ℕ) (key : ℤ) (row : Row) → at_place rows (place_at table key) ≡ Some row
        → (place : ℕ) × Among place (places table key)
        × (seen (slot table place) stamp 0 ≡ Some row)
    pub once : (table : ℕ) (key : ℤ) (one other : ℕ) → Among one (places table key)
        → Among other (places table key)
        → is_some (seen (slot table one) stamp 0) ≡ true → is_some (seen (slot table other) stamp 0)
        ≡ true → one ≡ other

  -- The commits above a snapshot that wrote a key: their entries stand at the key's places, and the
  -- newest of them is the last that the history has.
  pub record Numbers (stamp number : ℕ) (history : History) : Type 0 where
    pub below : (table : ℕ) (key : ℤ) (place above : ℕ) → Among place (places table key)
        → Among above (numbers_above (slot table place).entries stamp)
        → (last : ℕ) × (last_or None (later_writers history number (place_at table key))
        ≡ Some last) × (above ≤ last)
    pub last : (table : ℕ) (key : ℤ) (last : ℕ)
        → last_or None (later_writers history number (place_at table key)) ≡ Some last
        → (place : ℕ) × Among place (places table key)
        × Among last (numbers_above (slot table place).entries stamp)

  -- The index: a slot that is not bare is a candidate of one key, which all its versions have.
  pub record Index : Type 0 where
    pub keyed : (table place : ℕ) (key : ℤ) → Among place (places table key)
        → Keyed key (slot table place).row (slot table place).entries
    pub filled : (table place : ℕ) (key : ℤ) → Among place (places table key)
        → is_bare (slot table place) ≡ false
    pub listed : (table place : ℕ) → is_bare (slot table place) ≡ false → (key : ℤ)
        × Among place (places table key)
    pub one_key : (table place : ℕ) (key other : ℤ)
        → Among place (places table key) → Among place (places table other) → key ≡ other

  -- The open transactions' own writes are the current rows of the slots on which their entries
  -- stand.
  pub record Own (machine : IsolationMachine) : Type 0 where
    pub writers : (table place session : ℕ) → writer_of (slot table place).entries ≡ Some session
        → (open' : Transaction) × (transaction_of session machine ≡ Some open') × (key : ℤ)
        × Among place (places table key)
        × (at_place open'.own (place_at table key) ≡ Some (slot table place).row)
    pub written : (session : ℕ) (open' : Transaction) (table : ℕ) (key : ℤ) (value : Option Row)
        → transaction_of session machine ≡ Some open' → at_place open'.own (place_at table key)
        ≡ Some value
        → (place : ℕ) × Among place (places table key)
        × (writer_of (slot table place).entries ≡ Some session)

-- The desk has the machine's transactions, with its snapshots, its count of commits, and of each
-- table the last commit that wrote it, 0 where none did.
pub record Desked (desk : DeskState) (machine : IsolationMachine) : Type 0 where
  pub counted : length machine.history ≡ desk.commits
  pub begun : (session : ℕ) (snapshot : Snapshot) → 1 ≤ session → snapshot_of desk session
      ≡ Some snapshot
      → (open' : Transaction) × (transaction_of session machine ≡ Some open')
      × (open'.snapshot ≡ snapshot.number) × (open'.session ≡ session)
  pub idle : (session : ℕ) → 1 ≤ session → snapshot_of desk session ≡ None
      → transaction_of session machine ≡ None
  pub bounds : (session : ℕ) (snapshot : Snapshot) → 1 ≤ session → snapshot_of desk session
      ≡ Some snapshot
      → (snapshot.stamp ≤ desk.newest) × (snapshot.number ≤ desk.commits)
  pub one_each : OneEach machine.open_transactions
  pub own_order : (session : ℕ) (open' : Transaction) → transaction_of session machine ≡ Some open'
      → InOrder open'.own
  pub history_order : All InOrder machine.history
  pub wrote : (table : ℕ) → table < 16
      → wrote_table desk table ≡ unwrap_or (last_meeting machine.history 0 (read.Table table)) 0

-- The slots, the index and the desk follow the machine.
pub record Follows (slot : ℕ → ℕ → Slot) (places : ℕ → ℤ → List ℕ) (desk : DeskState) (machine : IsolationMachine) : Type 0 where
  pub slots : (table place : ℕ) → IsSoundSlot desk.newest desk.commits (slot table place)
  pub index : Index slot places
  pub desked : Desked desk machine
  pub shows : (stamp number : ℕ) → IsLive desk stamp number
      → Shows slot places stamp (state_at machine.history number)
  pub numbers : (stamp number : ℕ) → IsLive desk stamp number
      → Numbers slot places stamp number machine.history
  -- a key has one current slot at most
  pub current : (table : ℕ) (key : ℤ) (one other : ℕ) → Among one (places table key)
      → Among other (places table key)
      → is_current (slot table one) ≡ true → is_current (slot table other) ≡ true → one ≡ other
  pub own : Own slot places machine
  -- a key's candidates stand in the order of their age
  pub aged : (table : ℕ) (key : ℤ) (one other : ℕ) → StandsBefore one other (places table key)
      → IsOlder (slot table one) (slot table other)
