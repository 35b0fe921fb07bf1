-- What a store is that was just built, and its row of sessions.
use Rattle.std.specs.Prelude.{◌≡◌, ℕ, ◌+◌, ◌≤◌, Bool, List, [], None, Some, length, slice_get}
pub use Rattle.core_parts.specs.FirstRows.{IsFirstFull}
pub use Rattle.engine_core.specs.Core.{MayOpen}
use Rattle.event_spec.specs.Lawful.{transaction}
use Rattle.hall_rule.specs.Hands.{Holds}
use Rattle.hall_rule.specs.Opening.{sessions_to}
use Rattle.hall_steps.specs.Hall.{IsPass, first_of}
use Rattle.run_spec.specs.Handed.{own_in}
use Rattle.store_laws.specs.Logs.{log_of, store_meaning}
use Rattle.store_laws.specs.Own.{StandsUnder}
use Rattle.shared_store.specs.Making.{parts_seen}
use Rattle.shared_store.specs.Store.{HandsView, IsFree, IsSession, SeatView, StoreView, events_made}
use Rattle.shared_store.specs.Commits.{kept_first}
use Rattle.shared_store.specs.Store.{own_of, reads_of, seen, shape_in, taken_by, wrote_of}
use Rattle.shared_store.specs.declared.session.Session.{Session}

-- The first pass, while it has the sessions 1 to `count`: it made no event and took no part, and as
-- far as it saw each event stands under its session, and no session has anything open.
pub record HasSessions (store : StoreView) (count : ℕ) (seat : SeatView) (hands : HandsView)
    : Type 0 where
  pub pass : IsPass (store_meaning (shape_in store)) store.id seat hands
  pub empty : (part : ℕ) → ¬ Holds (first_of hands) part
  pub sessions : seat.me.0.sessions ≡ sessions_to count
  pub sole : seat.me.0.sole ≡ sessions_to (shape_in store).passes
  pub few : count ≤ (shape_in store).passes
  pub mine : seat.me.0.mine ≡ []
  pub taken : seat.me.0.taken ≡ []
  pub free : seat.me.0.claim ≡ 0
  pub under : (session : ℕ) → StandsUnder session (log_of seat.me.0.log)
  pub rests : (session : ℕ)
      → transaction (shape_in store) (parts_seen (shape_in store) seat.me.0) session ≡ None

-- It is the store's session of this number. It made no event, has nothing open, and read nothing.
pub record IsNewSession (store : StoreView) (number : ℕ) (s : Session) : Type 0 where
  pub session : IsSession store s
  pub numbered : s.session ≡ number
  pub rests : own_of s ≡ None
  pub unread : reads_of s ≡ None
  pub made : events_made s ≡ 0
  pub none : own_in (shape_in store) number (seen s) ≡ []
  pub taken : taken_by s ≡ []
  pub free : IsFree s

-- It keeps its commits from now on, or it keeps none.
abbrev pub StartsKeeping : Bool → Session → Type 0
StartsKeeping keeps s = wrote_of s ≡ kept_first keeps

-- All sessions of a store that was just built, in the order of their numbers, from 1 on.
pub record IsNewRow (store : StoreView) (count : ℕ) (row : List Session) : Type 0 where
  pub many : length row ≡ count
  pub each : (k : ℕ) (s : Session) → slice_get row k ≡ Some s → IsNewSession store (k + 1) s
