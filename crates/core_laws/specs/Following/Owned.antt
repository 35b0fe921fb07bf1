-- A session with an open transaction, and the slot on which its entries of a key stand.
use Rattle.std.specs.Prelude.{◌≡◌, ℕ, ◌≤◌, ℤ, List, Option, Some}
use Rattle.block_spec.specs.Slots.{Slot, writer_of}
use Rattle.event_spec.specs.Lawful.{Among}
use Rattle.event_spec.specs.declared.own.OwnKey.{OwnKey}
use Rattle.txn_desk.specs.declared.Snapshot.{Snapshot}
use Rattle.txn_desk.specs.Desk.{DeskState}
use Rattle.txn_desk.specs.Oldest.{snapshot_of}

-- The session is one from 1 on, and this snapshot is open for it.
pub record HasOpen (desk : DeskState) (session : ℕ) (snapshot : Snapshot) : Type 0 where
  pub counted : 1 ≤ session
  pub is_open : snapshot_of desk session ≡ Some snapshot

-- The slot of a session's own write of a key is the candidate on which its uncommitted entries
-- stand, if there is one.
pub record OwnSlot (slot : ℕ → ℕ → Slot) (places : ℕ → ℤ → List ℕ) (session table : ℕ) (key : ℤ) (written : Option ℕ) : Type 0 where
  pub there : (place : ℕ) → written ≡ Some place
      → Among place (places table key) × (writer_of (slot table place).entries ≡ Some session)
  pub all : (place : ℕ) → Among place (places table key) → writer_of (slot table place).entries
      ≡ Some session
      → written ≡ Some place

-- a transaction as an event on one key is handed it
abbrev pub own_key : ℕ → Snapshot → Option ℕ → OwnKey
own_key session snapshot written = record {
  session = session;
  snapshot = snapshot;
  written = written;
}
