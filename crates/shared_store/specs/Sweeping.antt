-- Events that a call makes one after another, from block to block, and what they tell together.
use Rattle.std.specs.Prelude.{◌≡◌, ℕ, ◌+◌, List, ◌++◌}
use Rattle.event_spec.specs.Effects.{CoreEvent}
use Rattle.event_spec.specs.Replies.{CoreReply}
use Rattle.run_spec.specs.Occurrences.{Occurrence, events_in}
use Rattle.shared_store.specs.Making.{Makes}
use Rattle.shared_store.specs.Reading.{Went}
use Rattle.shared_store.specs.Scanning.{ArePlain}
use Rattle.shared_store.specs.Store.{IsSession, StoreView, own_of, notes_of}
use Rattle.shared_store.specs.declared.session.Session.{Session}

-- The session made this event alone and was told this. It has open what it had.
pub record MakesAlone
    (store : StoreView) (old new : Session) (event : CoreEvent) (told : CoreReply)
    : Type 0 where
  pub session : IsSession store new
  pub same : new.session ≡ old.session
  pub opened : own_of new ≡ own_of old
  pub kept : notes_of new ≡ notes_of old
  pub makes : Makes store old.session old.pass.seat new.pass.seat new.pass.hands (own_of old) event
      told

-- The session made these events, which are among those that its call asks for. None was refused
-- memory, and they tell what is to be told.
pub record Sweeps
    (store : StoreView) (asked : List CoreEvent) (tells : List Occurrence → Type 0)
    (old new : Session) (events : List CoreEvent)
    : Type 0 where
  pub made : List Occurrence
  pub went : Went store old new asked made
  pub events_are : events_in made ≡ events
  pub plain : ArePlain made
  pub told : tells made

-- These events were made behind any such sweep, and add so many to what it counts.
abbrev pub SweepsMore
    : StoreView → List CoreEvent → (ℕ → List Occurrence → Type 0) → Session → Session
    → List CoreEvent → ℕ → Type 0
SweepsMore store asked tells old new events count =
    (first : Session) (front : List CoreEvent) (before : ℕ)
    → Sweeps store asked (tells before) first old front
    → Sweeps store asked (tells (before + count)) first new (front ++ events)
