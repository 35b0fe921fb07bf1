-- What a write asks of the store, and the rows that its transaction wrote, around it.
use Rattle.std.specs.Prelude.{◌≡◌, ℕ, Bool, true, false, is_some, option_map, Result, Some}
use Rattle.std.specs.BTreeMap.{insert_entry}
use Rattle.event_spec.specs.Effects.{CoreEvent}
use Rattle.event_spec.specs.Lawful.{IsLawful, session_of}
use Rattle.event_spec.specs.Replies.{CoreReply, reply_to, reply_to_write}
use Rattle.event_spec.specs.declared.reply.Reply.TheVariants as reply
use Rattle.event_spec.specs.declared.reply.WriteFault.{WriteFault}
use Rattle.isolation_spec.specs.Contents.{PlaceMap, at_place, place_cmp}
use Rattle.isolation_spec.specs.declared.place.Place.{Place}
use Rattle.run_spec.specs.Opened.{own_behind, with_own}
use Rattle.sole_store.specs.Sole.{SoleState}

-- The event writes the row of a place: it is lawful, it is judged as a write is, and a write that is
-- accepted is the open transaction's own.
pub record IsWriteOf (store : SoleState) (place : Place) (write : CoreEvent) : Type 0 where
  pub lawful : IsLawful store.shape write store.parts
  pub mine : session_of write ≡ Some 1
  pub judged : Result ℕ WriteFault
  pub replies : reply_to store.shape store.parts write ≡ reply_to_write judged
  pub behind : (told : CoreReply) → own_behind store.own write told
      ≡ option_map (with_own place told) store.own

-- Before a write a row that the transaction did not write yet gets an entry, so that none is wanting
-- once the write was accepted.
abbrev pub with_room : PlaceMap ℕ → Place → Bool → PlaceMap ℕ
with_room writes place true = writes
with_room writes place false = insert_entry place_cmp writes place 0

pub record HasRoom (writes : PlaceMap ℕ) (place : Place) (had : Bool) : Type 0 where
  pub before : PlaceMap ℕ
  pub entry : is_some (at_place before place) ≡ had
  pub room : writes ≡ with_room before place had

-- Behind the write a row that was accepted lies on the slot that was told; else nothing changed.
abbrev pub settled : PlaceMap ℕ → Place → CoreReply → PlaceMap ℕ
settled writes place (reply.Written slot) = insert_entry place_cmp writes place slot
settled writes place (reply.Begun snapshot) = writes
settled writes place (reply.Found row) = writes
settled writes place (reply.Refused fault) = writes
settled writes place (reply.Rows rows) = writes
settled writes place (reply.Shared rows) = writes
settled writes place (reply.Committed number) = writes
settled writes place (reply.Stale what number) = writes
settled writes place reply.Aborted = writes
settled writes place (reply.Oldest stamp) = writes
settled writes place (reply.Turned turned) = writes
settled writes place (reply.Dropped count) = writes
settled writes place (reply.Looked look) = writes
settled writes place (reply.Moved count) = writes
settled writes place (reply.Sealed stamp) = writes
settled writes place (reply.NotSealed fault) = writes
settled writes place (reply.Imaged rows) = writes
settled writes place reply.NoSeal = writes
settled writes place reply.Thawed = writes
settled writes place reply.Memory = writes
