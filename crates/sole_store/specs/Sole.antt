-- A store of one owner, and what an event makes of it.
use Rattle.std.specs.Prelude.{◌≡◌, ◌⊎◌, true, Option, None, Some}
use Rattle.core_parts.specs.Hands.{Held}
use Rattle.engine_core.specs.Core.{IsWhole, is_memory, parts_in}
use Rattle.event_spec.specs.declared.own.OwnTransaction.{OwnTransaction}
use Rattle.event_spec.specs.Effects.{CoreEvent}
use Rattle.event_spec.specs.Lawful.{IsLawful, session_of, takes_memory}
use Rattle.event_spec.specs.Parts.{Parts, Shape}
use Rattle.event_spec.specs.Replay.{Made, after, reply_after}
use Rattle.event_spec.specs.Replies.{CoreReply}
use Rattle.run_spec.specs.Opened.{own_behind}
use Rattle.store_laws.specs.OwnLaws.{HasOpened}

-- A store as contracts see it: its core, and the owner's open transaction.
pub record SoleState : Type 0 where
  pub shape : Shape
  pub parts : Parts
  pub own : Option OwnTransaction

-- the store of a core whose parts lie in the owner's hand
abbrev pub store_of : Shape → Held → Option OwnTransaction → SoleState
store_of shape hand own = record { shape = shape; parts = parts_in hand; own = own }

-- All parts of a core lie in the owner's hand, and what he has open is what the core has open for
-- its only session.
pub record IsSole (shape : Shape) (hand : Held) (own : Option OwnTransaction) : Type 0 where
  pub whole : IsWhole shape hand
  pub opened : HasOpened shape (parts_in hand) 1 own
  pub sessions : shape.passes ≡ 1

-- an event to which this was told
abbrev pub made_by : CoreEvent → CoreReply → Made
made_by event told = record { event = event; refused = is_memory told }

-- the store behind it
abbrev pub behind : SoleState → CoreEvent → CoreReply → SoleState
behind store event told = record store {
  parts = after store.shape store.parts (made_by event told);
  own = own_behind store.own event told;
}

-- The store made one event, and this is what the core tells to it. Only an event that takes memory
-- is told that there is none.
pub record Makes (old new : SoleState) (event : CoreEvent) (told : CoreReply) : Type 0 where
  pub told_is : told ≡ reply_after old.shape old.parts (made_by event told)
  pub behind_is : new ≡ behind old event told
  pub memory : is_memory told ≡ true → takes_memory event ≡ true

-- The event is of the owner's session or of none.
abbrev pub IsOwners : CoreEvent → Type 0
IsOwners event = (session_of event ≡ Some 1) ⊎ (session_of event ≡ None)

-- The store may make an event which, whatever is told, leaves what is open as it is.
pub record MayMake (store : SoleState) (event : CoreEvent) : Type 0 where
  pub lawful : IsLawful store.shape event store.parts
  pub owners : IsOwners event
  pub leaves : (told : CoreReply) → own_behind store.own event told ≡ store.own
