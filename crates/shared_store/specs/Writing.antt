-- The rows that a transaction wrote, around a write, and why a write is refused.
use Rattle.std.specs.Prelude.{◌≡◌, ⊤, ℕ, Bool, true, false, List, Option, None, Some, Result, Ok}
use Rattle.std.specs.Prelude.{Err, is_some}
use Rattle.std.specs.BTreeMap.{insert_entry}
use Rattle.event_spec.specs.declared.reply.Reply.TheVariants as reply
use Rattle.event_spec.specs.declared.reply.WriteFault.{WriteFault}
use Rattle.event_spec.specs.Parts.{Shape}
use Rattle.event_spec.specs.Replies.{CoreReply}
use Rattle.isolation_spec.specs.declared.place.Place.{Place}
use Rattle.isolation_spec.specs.Contents.{PlaceMap, at_place, place_cmp}
use Rattle.outcome_spec.specs.Entries.{is_accepted}
use Rattle.run_spec.specs.Commits.{says}
use Rattle.run_spec.specs.Handed.{GoesOn}
use Rattle.run_spec.specs.Occurrences.{Logged}
use Rattle.store_laws.specs.Own.{parts_after}
use Rattle.store_laws.specs.Room.{IsSpent}
use Rattle.shared_store.specs.declared.faults.StoreFault.{StoreFault}
use Rattle.shared_store.specs.declared.faults.StoreFault.TheVariants as fault

-- Before a write a row that has no entry yet gets one, so that none is wanting once the write was
-- accepted.
abbrev pub roomed : PlaceMap ℕ → Place → Bool → PlaceMap ℕ
roomed writes place true = writes
roomed writes place false = insert_entry place_cmp writes place 0

pub record IsRoomed (writes : PlaceMap ℕ) (place : Place) (had : Bool) : Type 0 where
  pub before : PlaceMap ℕ
  pub entry : is_some (at_place before place) ≡ had
  pub room : writes ≡ roomed before place had

-- Behind the write a row that was accepted lies on the slot that was told; else nothing changed.
abbrev pub settled : PlaceMap ℕ → Place → CoreReply → PlaceMap ℕ
settled writes place (reply.Written slot) = insert_entry place_cmp writes place slot
settled writes place _ = writes

-- the writes after a reply are those before it, as it settles them
abbrev pub Settles : PlaceMap ℕ → PlaceMap ℕ → Place → CoreReply → Type 0
Settles old new place told = new ≡ settled old place told

-- a write is accepted, refused, or finds no memory
abbrev pub IsWriteReply : CoreReply → Type 0
IsWriteReply (reply.Begun snapshot) = ⊥
IsWriteReply (reply.Found row) = ⊥
IsWriteReply (reply.Written slot) = ⊤
IsWriteReply (reply.Refused fault) = ⊤
IsWriteReply (reply.Rows rows) = ⊥
IsWriteReply (reply.Shared rows) = ⊥
IsWriteReply (reply.Committed number) = ⊥
IsWriteReply (reply.Stale what number) = ⊥
IsWriteReply reply.Aborted = ⊥
IsWriteReply (reply.Oldest stamp) = ⊥
IsWriteReply (reply.Turned turned) = ⊥
IsWriteReply (reply.Dropped count) = ⊥
IsWriteReply (reply.Looked look) = ⊥
IsWriteReply (reply.Moved count) = ⊥
IsWriteReply (reply.Sealed stamp) = ⊥
IsWriteReply (reply.NotSealed fault) = ⊥
IsWriteReply (reply.Imaged rows) = ⊥
IsWriteReply reply.NoSeal = ⊥
IsWriteReply reply.Thawed = ⊥
IsWriteReply reply.Memory = ⊤

-- the write was accepted
abbrev pub is_written : CoreReply → Bool
is_written (reply.Written slot) = true
is_written _ = false

-- whether a write was made and accepted
abbrev pub is_accepted_in : {E : Type 0} → Result CoreReply E → Bool
is_accepted_in (Ok told) = says is_accepted told
is_accepted_in (Err memory) = false

-- The fault for which a write's event was refused, and the one that the write answers.
abbrev pub fault_replied : CoreReply → Option WriteFault
fault_replied (reply.Begun snapshot) = None
fault_replied (reply.Found row) = None
fault_replied (reply.Written slot) = None
fault_replied (reply.Refused refused) = Some refused
fault_replied (reply.Rows rows) = None
fault_replied (reply.Shared rows) = None
fault_replied (reply.Committed number) = None
fault_replied (reply.Stale what number) = None
fault_replied reply.Aborted = None
fault_replied (reply.Oldest stamp) = None
fault_replied (reply.Turned turned) = None
fault_replied (reply.Dropped count) = None
fault_replied (reply.Looked look) = None
fault_replied (reply.Moved count) = None
fault_replied (reply.Sealed stamp) = None
fault_replied (reply.NotSealed fault) = None
fault_replied (reply.Imaged rows) = None
fault_replied reply.NoSeal = None
fault_replied reply.Thawed = None
fault_replied reply.Memory = None

abbrev pub fault_answered : {X : Type 0} → Result X StoreFault → Option WriteFault
fault_answered (Ok done) = None
fault_answered (Err (fault.Write refused)) = Some refused
fault_answered (Err fault.Memory) = None

-- At a moment of the call, between the log that its session had seen and the one that it sees
-- behind it, the table's inserts had taken so many slots, which are at least all that it has.
pub record FoundFull (shape : Shape) (old new : List Logged) (table inserts : ℕ) : Type 0 where
  pub at' : List Logged
  pub saw : GoesOn old at'
  pub left : GoesOn at' new
  pub spent : IsSpent shape (parts_after shape at') table inserts
