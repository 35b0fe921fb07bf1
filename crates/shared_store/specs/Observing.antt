-- What observing blocks makes, one after another.
use Rattle.std.specs.Prelude.{◌≡◌, ℕ, Bool, List, count_by}
use Rattle.event_spec.specs.declared.event.Event.TheVariants as event
use Rattle.event_spec.specs.declared.reply.Reply.TheVariants as reply
use Rattle.event_spec.specs.Effects.{CoreEvent}
use Rattle.run_spec.specs.Asked.{at_all_blocks, at_blocks}
use Rattle.run_spec.specs.Occurrences.{Occurrence, replies_in}
use Rattle.run_spec.specs.Told.{is_turned}
use Rattle.shared_store.specs.Store.{StoreView, shape_in}
use Rattle.shared_store.specs.Sweeping.{MakesAlone, Sweeps, SweepsMore}
use Rattle.shared_store.specs.declared.session.Session.{Session}

-- the observe of a block
abbrev pub observing : ℕ → ℕ → CoreEvent
observing table block = event.Observe table block

-- so many blocks turned cooling
abbrev pub HaveTurned : ℕ → List Occurrence → Type 0
HaveTurned count made = count ≡ count_by is_turned (replies_in made)

-- A block was observed, and turned cooling or not.
abbrev pub ObservesBlock : StoreView → Session → Session → ℕ → ℕ → Bool → Type 0
ObservesBlock store old new table block turned =
    MakesAlone store old new (observing table block) (reply.Turned turned)

-- The session made these events, all of them observes, and so many blocks turned cooling.
abbrev pub Observes : StoreView → Session → Session → List CoreEvent → ℕ → Type 0
Observes store old new events count =
    Sweeps store (at_all_blocks (shape_in store) observing) (HaveTurned count) old new events

-- These observes were made behind any of before.
abbrev pub ObservesMore : StoreView → Session → Session → List CoreEvent → ℕ → Type 0
ObservesMore store old new events count =
    SweepsMore store (at_all_blocks (shape_in store) observing) HaveTurned old new events count

-- The blocks of a table were observed.
abbrev pub ObservesTable : StoreView → Session → Session → ℕ → ℕ → Type 0
ObservesTable store old new table count =
    ObservesMore store old new (at_blocks (shape_in store) table (observing table)) count
