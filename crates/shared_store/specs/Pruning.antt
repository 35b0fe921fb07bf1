-- What pruning makes: an `oldest`, and by the stamp that it replies a prune of each block.
use Rattle.std.specs.Prelude.{◌≡◌, ℕ, List, [], ◌∷◌, filter_map, sum_by}
use Rattle.event_spec.specs.declared.event.Event.TheVariants as event
use Rattle.event_spec.specs.declared.reply.Reply.TheVariants as reply
use Rattle.event_spec.specs.Effects.{CoreEvent}
use Rattle.event_spec.specs.Lawful.{IsOldest}
use Rattle.event_spec.specs.Parts.{Shape}
use Rattle.run_spec.specs.Asked.{at_all_blocks, at_blocks, oldest_told}
use Rattle.run_spec.specs.Occurrences.{Occurrence, replies_in}
use Rattle.run_spec.specs.Told.{dropped_told}
use Rattle.shared_store.specs.Making.{parts_seen}
use Rattle.shared_store.specs.Store.{StoreView, shape_in}
use Rattle.shared_store.specs.Sweeping.{MakesAlone, Sweeps, SweepsMore}
use Rattle.shared_store.specs.declared.session.Session.{Session}

-- the prune of a block by a stamp
abbrev pub pruning : ℕ → ℕ → ℕ → CoreEvent
pruning oldest table block = event.Prune table block oldest

-- the events of a pruning whose `oldest` replies this stamp
abbrev pub asked_by : Shape → ℕ → List CoreEvent
asked_by shape oldest = event.Oldest ∷ at_all_blocks shape (pruning oldest)

-- No live snapshot is below the stamp, as the session has seen.
abbrev pub KnowsOldest : StoreView → Session → ℕ → Type 0
KnowsOldest store s oldest = IsOldest (shape_in store) oldest
    (parts_seen (shape_in store) s.pass.seat.me.0)

-- This stamp alone was replied, and so many versions were dropped.
pub record HaveDropped (oldest count : ℕ) (made : List Occurrence) : Type 0 where
  pub stamps : filter_map oldest_told (replies_in made) ≡ oldest ∷ []
  pub counted : count ≡ sum_by dropped_told (replies_in made)

-- The stamp was asked for.
abbrev pub AsksOldest : StoreView → Session → Session → ℕ → Type 0
AsksOldest store old new oldest = MakesAlone store old new event.Oldest (reply.Oldest oldest)

-- A block was pruned, and so many of its versions were dropped.
abbrev pub PrunesBlock : StoreView → ℕ → Session → Session → ℕ → ℕ → ℕ → Type 0
PrunesBlock store oldest old new table block count =
    MakesAlone store old new (pruning oldest table block) (reply.Dropped count)

-- The session made these events of a pruning, and so many versions were dropped.
abbrev pub Prunes : StoreView → ℕ → Session → Session → List CoreEvent → ℕ → Type 0
Prunes store oldest old new events count =
    Sweeps store (asked_by (shape_in store) oldest) (HaveDropped oldest count) old new events

-- These prunes were made behind any of before.
abbrev pub PrunesMore : StoreView → ℕ → Session → Session → List CoreEvent → ℕ → Type 0
PrunesMore store oldest old new events count =
    SweepsMore store (asked_by (shape_in store) oldest) (HaveDropped oldest) old new events count

-- The blocks of a table were pruned.
abbrev pub PrunesTable : StoreView → ℕ → Session → Session → ℕ → ℕ → Type 0
PrunesTable store oldest old new table count =
    PrunesMore store oldest old new (at_blocks (shape_in store) table (pruning oldest table)) count
