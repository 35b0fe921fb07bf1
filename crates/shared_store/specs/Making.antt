-- What making an event asks of a session's pass, and what it tells: its parts are taken, the event
-- is made on them, and they are given back.
use Rattle.std.specs.Prelude.{◌≡◌, ⊤, ℕ, ◌+◌, ◌<◌, ◌≤◌, ◌^◌, List, [], ◌∷◌, ◌++◌, Option, None}
use Rattle.std.specs.Prelude.{MatchBool, true, length}
use Rattle.engine_core.specs.Costs.{cost_of}
use Rattle.block_spec.specs.Bodies.{is_imaged}
use Rattle.event_spec.specs.declared.event.Event.TheVariants as event
use Rattle.event_spec.specs.declared.own.OwnTransaction.{OwnTransaction}
use Rattle.event_spec.specs.Effects.{CoreEvent}
use Rattle.event_spec.specs.Lawful.{FitsIn, HasBlock, IsOldest, Stands, takes_memory}
use Rattle.event_spec.specs.Parts.{CorePart, Name, Parts, Shape, TheDesk, body_at, desk_at}
use Rattle.event_spec.specs.Replies.{CoreReply, reply_to}
use Rattle.event_spec.specs.Touched.{touched, touching}
use Rattle.core_laws.specs.Words.Words.{thawed_part}
use Rattle.core_laws.specs.Frames.Shards.{CoreHolds}
use Rattle.hall_rule.specs.EventLog.{replay}
use Rattle.hall_rule.specs.Hands.{Agrees, Covers, SameRoom}
use Rattle.hall_rule.specs.declared.view.View.{View}
use Rattle.hall_steps.specs.Hall.{SameClaim, first_of, thawed_by}
use Rattle.run_spec.specs.Calls.{is_memory}
use Rattle.run_spec.specs.Occurrences.{Logged}
use Rattle.run_spec.specs.Opened.{own_behind}
use Rattle.store_laws.specs.Laws.{IsOfSession, SeesOn}
use Rattle.store_laws.specs.Logs.{log_of, store_meaning}
use Rattle.store_laws.specs.Own.{MakesOne, parts_after}
use Rattle.shared_store.specs.Store.{HandsView, IsAt, IsWithin, IsWithinAt, SeatView}
use Rattle.shared_store.specs.Store.{StoreView, TookPartsOf, shape_in}

-- the parts that a view's log leaves
abbrev pub parts_seen : Shape → View CoreEvent → Parts
parts_seen shape view = replay (store_meaning shape) view.log

-- a stamp that no live snapshot is below stays one
abbrev pub OldestLasts : Shape → View CoreEvent → View CoreEvent → Type 0
OldestLasts shape old new = (stamp : ℕ) → IsOldest shape stamp (parts_seen shape old)
    → IsOldest shape stamp (parts_seen shape new)

-- The pass may make one event more, and a stamp is left for it.
abbrev pub IsFew : View CoreEvent → Type 0
IsFew view = length view.mine + 1 < 2 ^ 56

-- ---- taking

-- A pass that held no part took those that the event touches. What its session knew stands.
pub record Takes
    (store : StoreView) (session : ℕ) (old new : SeatView) (later : HandsView)
    (own : Option OwnTransaction) (event : CoreEvent)
    : Type 0 where
  pub within : IsWithin store session new later own
  pub sees : SeesOn (shape_in store) session old.me.0 new.me.0 own
  pub mine : new.me.0.mine ≡ old.me.0.mine
  pub covers : Covers (touching (shape_in store) event) (first_of later)
  pub took : TookPartsOf
      (shape_in store)
      (event ∷ [])
      (log_of old.me.0.log)
      (log_of new.me.0.log)
      old.me.0.taken
      new.me.0.taken
  pub stands : (e : CoreEvent) → IsOfSession session e
      → Stands (shape_in store) e (parts_seen (shape_in store) old.me.0)
      → Stands (shape_in store) e (parts_seen (shape_in store) new.me.0)
  pub lasting : OldestLasts (shape_in store) old.me.0 new.me.0

abbrev pub TakesAny : StoreView → SeatView → HandsView → SeatView → HandsView → CoreEvent → Type 0
TakesAny store old hands new later event = (session : ℕ) (own : Option OwnTransaction)
    → IsAt store session old hands own → Takes store session old new later own event

-- ---- an event on parts in the hand

-- The pass holds the parts that the event touches, which is lawful there. What the event thaws was
-- drained.
pub record MayMakeHeld (store : StoreView) (seat : SeatView) (hands : HandsView) (event : CoreEvent)
    : Type 0 where
  pub session : ℕ
  pub own : Option OwnTransaction
  pub within : IsWithinAt
      (thawed_by (thawed_part (shape_in store) event))
      store
      session
      seat
      hands
      own
  pub mine : IsOfSession session event
  pub covers : Covers (touching (shape_in store) event) (first_of hands)
  pub stands : Stands (shape_in store) event (parts_seen (shape_in store) seat.me.0)
  pub fits : FitsIn (shape_in store) event (parts_seen (shape_in store) seat.me.0)
  pub few : IsFew seat.me.0

-- The session made the event on them and was told the reply. Before the event they were as its log
-- leaves them.
pub record MakesHeld
    (store : StoreView) (session : ℕ) (old new : SeatView) (hands later : HandsView)
    (own : Option OwnTransaction) (event : CoreEvent) (told : CoreReply)
    : Type 0 where
  pub within : IsWithin store session new later (own_behind own event told)
  pub makes : MakesOne (shape_in store) session (log_of old.me.0.log) (log_of new.me.0.log) event
      told
  pub refuses : is_memory told ≡ true → takes_memory event ≡ true
  pub count : length new.me.0.mine ≡ length old.me.0.mine + 1
  pub taken : new.me.0.taken ≡ old.me.0.taken
  pub room : SameRoom (first_of hands) (first_of later)
  pub agrees : Agrees (first_of hands) (parts_after (shape_in store) makes.before)
  pub reads : SameClaim old.me.0 new.me.0
  pub lasting : OldestLasts (shape_in store) old.me.0 new.me.0

abbrev pub MakesAnyHeld
    : StoreView → SeatView → HandsView → SeatView → HandsView → CoreEvent → CoreReply → Type 0
MakesAnyHeld store old hands new later event told =
    (thawing session : ℕ) (own : Option OwnTransaction)
    → IsWithinAt thawing store session old hands own → IsOfSession session event
    → MakesHeld store session old new hands later own event told

-- The pass holds the body of an imaged block, and may thaw it.
pub record MayThawHeld
    (store : StoreView) (seat : SeatView) (hands : HandsView) (table block : ℕ)
    : Type 0 where
  pub session : ℕ
  pub own : Option OwnTransaction
  pub within : IsWithin store session seat hands own
  pub covers : Covers (touching (shape_in store) (event.Thaw table block)) (first_of hands)
  pub has : HasBlock (shape_in store) table block
  pub imaged : is_imaged
      (body_at (shape_in store) (parts_seen (shape_in store) seat.me.0) table block).phase
      ≡ true
  pub few : IsFew seat.me.0

-- The session waited until no reader was in the block, and made the thaw.
abbrev pub ThawsAnyHeld
    : StoreView → SeatView → HandsView → SeatView → HandsView → ℕ → ℕ → CoreReply → Type 0
ThawsAnyHeld store old hands new later table block told = (session : ℕ)
    (own : Option OwnTransaction) → IsWithin store session old hands own
    → MakesHeld store session old new hands later own (event.Thaw table block) told

-- No more rows are looked at than the event may at the parts that the log before it leaves, of which
-- it is the reply. The log ends with it.
pub record ReadsFew
    (shape : Shape) (view : View CoreEvent) (event : CoreEvent) (told : CoreReply) (old new : ℕ)
    : Type 0 where
  pub before : List Logged
  pub last : Logged
  pub log : log_of view.log ≡ before ++ last ∷ []
  pub tells : MatchBool (is_memory told) ⊤ (told ≡ reply_to shape (parts_after shape before) event)
  pub few : new ≤ old + cost_of shape event (parts_after shape before)

-- ---- giving back

-- The pass gave back all that it held, and knows and has lent what it did.
pub record Gives
    (store : StoreView) (session : ℕ) (old new : SeatView) (later : HandsView)
    (own : Option OwnTransaction)
    : Type 0 where
  pub stands : IsAt store session new later own
  pub log : new.me.0.log ≡ old.me.0.log
  pub mine : new.me.0.mine ≡ old.me.0.mine
  pub taken : new.me.0.taken ≡ old.me.0.taken
  pub reads : SameClaim old.me.0 new.me.0

abbrev pub GivesAny : StoreView → SeatView → HandsView → SeatView → HandsView → Type 0
GivesAny store old hands new later = (session : ℕ) (own : Option OwnTransaction)
    → IsWithin store session old hands own → Gives store session old new later own

-- ---- an event, with its parts

-- Whatever is held, the event touches the desk.
abbrev pub IsAtDesk : Shape → CoreEvent → Type 0
IsAtDesk shape event = (held : Name → Option CorePart)
    → touched shape held event TheDesk ≡ true

-- the event fits each core in which a stamp is left
abbrev pub FitsEach : Shape → CoreEvent → Type 0
FitsEach shape event = (parts : Parts) → CoreHolds shape parts
    → (desk_at shape parts).newest + 1 < 2 ^ 63 → FitsIn shape event parts

-- A pass that holds no part may make the event, which thaws nothing: it stands by what its session
-- has open and by what lasts, and fits each core.
pub record MayMake (store : StoreView) (seat : SeatView) (hands : HandsView) (event : CoreEvent)
    : Type 0 where
  pub session : ℕ
  pub own : Option OwnTransaction
  pub at' : IsAt store session seat hands own
  pub mine : IsOfSession session event
  pub thawless : thawed_part (shape_in store) event ≡ None
  pub stands : Stands (shape_in store) event (parts_seen (shape_in store) seat.me.0)
  pub fits : FitsEach (shape_in store) event
  pub few : IsFew seat.me.0

-- The session made the event and was told the reply. It took the event's parts alone and holds
-- none.
pub record Makes
    (store : StoreView) (session : ℕ) (old new : SeatView) (later : HandsView)
    (own : Option OwnTransaction) (event : CoreEvent) (told : CoreReply)
    : Type 0 where
  pub stands : IsAt store session new later (own_behind own event told)
  pub makes : MakesOne (shape_in store) session (log_of old.me.0.log) (log_of new.me.0.log) event
      told
  pub refuses : is_memory told ≡ true → takes_memory event ≡ true
  pub count : length new.me.0.mine ≡ length old.me.0.mine + 1
  pub took : TookPartsOf
      (shape_in store)
      (event ∷ [])
      (log_of old.me.0.log)
      (log_of new.me.0.log)
      old.me.0.taken
      new.me.0.taken
  pub reads : SameClaim old.me.0 new.me.0
  pub lasting : OldestLasts (shape_in store) old.me.0 new.me.0

-- Of whichever session the pass is, it makes the event.
abbrev pub MakesAny
    : StoreView → SeatView → HandsView → SeatView → HandsView → CoreEvent → CoreReply → Type 0
MakesAny store old hands new later event told = (session : ℕ) (own : Option OwnTransaction)
    → IsAt store session old hands own → IsOfSession session event
    → Makes store session old new later own event told
