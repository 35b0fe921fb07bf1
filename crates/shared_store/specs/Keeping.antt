-- What an event on a block asks of a pass that keeps parts from one block of a table to the next,
-- and what it tells.
use Rattle.std.specs.Prelude.{◌≡◌, ℕ, ◌%◌, ◌||◌, Bool, true, false, List, Option, None, Some, map}
use Rattle.std.specs.Prelude.{slice_get}
use Rattle.core_laws.specs.Words.Words.{thawed_part}
use Rattle.event_spec.specs.declared.own.OwnTransaction.{OwnTransaction}
use Rattle.event_spec.specs.Effects.{CoreEvent}
use Rattle.event_spec.specs.Lawful.{HasBlock, Stands}
use Rattle.event_spec.specs.Parts.{BodyOf, CorePart, HeadOf, Name, ShardOf, Shape, TheDesk, names}
use Rattle.event_spec.specs.Parts.{same_name}
use Rattle.event_spec.specs.Replies.{CoreReply}
use Rattle.event_spec.specs.Touched.{is_shard_in, passes_test, touched}
use Rattle.hall_rule.specs.Hands.{Holds}
use Rattle.hall_steps.specs.Hall.{SameClaim, first_of}
use Rattle.run_spec.specs.Opened.{own_behind}
use Rattle.store_laws.specs.Laws.{IsOfSession}
use Rattle.shared_store.specs.Making.{FitsEach, IsFew, Makes, Takes, parts_seen}
use Rattle.shared_store.specs.Store.{HandsView, IsWithin, SeatView, StoreView, own_of, reads_of}
use Rattle.shared_store.specs.Store.{shape_in}
use Rattle.shared_store.specs.declared.keeping.OnBlocks.{OnBlocks}
use Rattle.shared_store.specs.declared.keeping.OnBlocks.TheVariants.{Observe, Prune}
use Rattle.shared_store.specs.declared.session.Session.{Session}
use Rattle.shared_store.specs.Observing.{observing}
use Rattle.shared_store.specs.Pruning.{pruning}
use Rattle.shared_store.specs.Reads.{ReadsFit}

-- ---- parts that are kept

-- heads and shards stand before all bodies
abbrev pub is_low : Name → Bool
is_low (HeadOf table) = true
is_low (ShardOf table shard) = true
is_low (BodyOf table block) = false
is_low TheDesk = false

-- Whatever is held, the event touches the body of this block, and beside it those heads and shards
-- that pass the test.
pub record IsOnBlock
    (shape : Shape) (common : Name → Bool) (table block : ℕ) (event : CoreEvent)
    : Type 0 where
  pub touches : (held : Name → Option CorePart) (name : Name)
      → touched shape held event name ≡ (common name || same_name (BodyOf table block) name)
  pub low : (name : Name) → common name ≡ true → is_low name ≡ true

-- The parts that pass the test are in the hand, and no others.
pub record Keeps (shape : Shape) (common : Name → Bool) (hand : List (Option CorePart))
    : Type 0 where
  pub all : (k : ℕ) (name : Name) → slice_get (names shape) k ≡ Some name → common name ≡ true
      → Holds hand k
  pub only : (k : ℕ) → Holds hand k → passes_test common (slice_get (names shape) k) ≡ true

-- what the events of a pruning, and those of an observation, touch beside a body
abbrev pub beside_prune : ℕ → Name → Bool
beside_prune table name = same_name (HeadOf table) name || is_shard_in table name

abbrev pub beside_observe : ℕ → Name → Bool
beside_observe table name = same_name (HeadOf table) name

-- the event that is made on a block
abbrev pub event_on : OnBlocks → ℕ → ℕ → CoreEvent
event_on Observe table block = observing table block
event_on (Prune oldest) table block = pruning oldest table block

-- ---- a pass as if it had given all back

abbrev pub emptied : List (Option CorePart) → List (Option CorePart)
emptied hand = map (λ place. None) hand

abbrev pub rested_hands : HandsView → HandsView
rested_hands hands = map emptied hands

abbrev pub rested_seat : SeatView → SeatView
rested_seat seat =
    record seat {
      me = (
        record seat.me.0 { stages = map (λ stage. 0) seat.me.0.stages },
        seat.me.1,
      );
    }

abbrev pub rested : Session → Session
rested s = record {
  pass = record s.pass {
    seat = rested_seat s.pass.seat;
    hands = rested_hands s.pass.hands;
    counted = s.pass.counted;
  };
  session = s.session;
  snapshot = s.snapshot;
  writes = s.writes;
  reads = s.reads;
  kept = s.kept;
}

-- A session of this store, whose pass keeps parts from the block before this one on: none at the
-- first block.
pub record IsKeeping (store : StoreView) (common : Name → Bool) (block : ℕ) (s : Session)
    : Type 0 where
  pub within : IsWithin store s.session s.pass.seat s.pass.hands (own_of s)
  pub fits : ReadsFit (shape_in store) (reads_of s)
  pub keeps : (block ≡ 0 → ⊥) → Keeps (shape_in store) common (first_of s.pass.hands)

-- ---- taking and giving back

-- The event is on the block of this body, and the other parts that it touches are kept, but where
-- all parts are given back before.
pub record MayTakeBeside
    (store : StoreView) (hands : HandsView) (event : CoreEvent) (block body : ℕ)
    : Type 0 where
  pub table : ℕ
  pub common : Name → Bool
  pub has : HasBlock (shape_in store) table block
  pub number : slice_get (names (shape_in store)) body ≡ Some (BodyOf table block)
  pub on : IsOnBlock (shape_in store) common table block event
  pub keeps : (block % 64 ≡ 0 → ⊥) → Keeps (shape_in store) common (first_of hands)

-- Of whichever session the pass is, it took parts of the event.
abbrev pub TakesBeside : StoreView → SeatView → HandsView → SeatView → HandsView → CoreEvent
    → Type 0
TakesBeside store old hands new later event = (session : ℕ) (own : Option OwnTransaction)
    → IsWithin store session old hands own → Takes store session old new later own event

-- The pass gave one part back, and knows what it knew.
pub record GivesPart
    (store : StoreView) (session : ℕ) (old new : SeatView) (later : HandsView)
    (own : Option OwnTransaction)
    : Type 0 where
  pub within : IsWithin store session new later own
  pub log : new.me.0.log ≡ old.me.0.log
  pub mine : new.me.0.mine ≡ old.me.0.mine
  pub taken : new.me.0.taken ≡ old.me.0.taken
  pub reads : SameClaim old.me.0 new.me.0

abbrev pub GivesAnyPart : StoreView → SeatView → HandsView → SeatView → HandsView → Type 0
GivesAnyPart store old hands new later = (session : ℕ) (own : Option OwnTransaction)
    → IsWithin store session old hands own → GivesPart store session old new later own

-- ---- an event

-- A pass that keeps parts may make the event on this block.
pub record MayMakeKeeping
    (store : StoreView) (seat : SeatView) (hands : HandsView) (table block : ℕ) (event : CoreEvent)
    : Type 0 where
  pub session : ℕ
  pub own : Option OwnTransaction
  pub within : IsWithin store session seat hands own
  pub common : Name → Bool
  pub has : HasBlock (shape_in store) table block
  pub on : IsOnBlock (shape_in store) common table block event
  pub keeps : (block ≡ 0 → ⊥) → Keeps (shape_in store) common (first_of hands)
  pub mine : IsOfSession session event
  pub thawless : thawed_part (shape_in store) event ≡ None
  pub stands : Stands (shape_in store) event (parts_seen (shape_in store) seat.me.0)
  pub fits : FitsEach (shape_in store) event
  pub few : IsFew seat.me.0

-- The session made the event and was told the reply, as if it held no part before and behind. It
-- took the event's parts alone, and keeps those that are no body.
pub record MakesKeeping
    (store : StoreView) (session : ℕ) (old new : SeatView) (later : HandsView)
    (own : Option OwnTransaction) (common : Name → Bool) (event : CoreEvent) (told : CoreReply)
    : Type 0 where
  pub within : IsWithin store session new later (own_behind own event told)
  pub makes : Makes store session old (rested_seat new) (rested_hands later) own event told
  pub keeps : Keeps (shape_in store) common (first_of later)

abbrev pub MakesAnyKeeping
    : StoreView → SeatView → HandsView → SeatView → HandsView → ℕ → ℕ → CoreEvent → CoreReply
    → Type 0
MakesAnyKeeping store old hands new later table block event told =
    (session : ℕ) (own : Option OwnTransaction) (common : Name → Bool)
    → IsWithin store session old hands own → IsOfSession session event
    → IsOnBlock (shape_in store) common table block event
    → MakesKeeping store session old new later own common event told
