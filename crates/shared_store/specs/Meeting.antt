-- What two sessions make of it that they meet: each is shown what the other has seen of the log.
use Rattle.std.specs.Prelude.{◌≡◌, ℕ, Option, length}
use Rattle.event_spec.specs.declared.own.OwnTransaction.{OwnTransaction}
use Rattle.event_spec.specs.Effects.{CoreEvent}
use Rattle.hall_rule.specs.declared.view.View.{View}
use Rattle.run_spec.specs.Handed.{GoesOn, own_in}
use Rattle.store_laws.specs.Laws.{SeesOn}
use Rattle.shared_store.specs.Open.{StaysOpen}
use Rattle.shared_store.specs.Store.{HandsView, IsAt, IsSession, KeepsLend, SeatView, StoreView}
use Rattle.shared_store.specs.Store.{events_made, own_of, notes_of, seen, shape_in, taken_by, view_of}
use Rattle.shared_store.specs.declared.session.Session.{Session}

-- ---- a pass

-- The pass holds no part, as before, and has its session as before.
abbrev pub StaysAny : StoreView → SeatView → HandsView → SeatView → HandsView → Type 0
StaysAny store old hands new later = (session : ℕ) (own : Option OwnTransaction)
    → IsAt store session old hands own → IsAt store session new later own

-- A pass that knew the old view may have seen more of the log since. It made no event and took no
-- part, and its session has open what it had.
pub record Sees
    (store : StoreView) (session : ℕ) (old : View CoreEvent) (new : SeatView) (later : HandsView)
    (own : Option OwnTransaction)
    : Type 0 where
  pub stands : IsAt store session new later own
  pub sees : SeesOn (shape_in store) session old new.me.0 own
  pub count : length new.me.0.mine ≡ length old.mine
  pub taken : new.me.0.taken ≡ old.taken

abbrev pub SeesAny : StoreView → SeatView → HandsView → SeatView → HandsView → Type 0
SeesAny store old hands new later = (session : ℕ) (own : Option OwnTransaction)
    → IsAt store session old hands own → Sees store session old.me.0 new later own

-- ---- a session

-- The session is one of the store, as before, and may have seen more of the log since. It made no
-- event and took no part, and has open what it had.
pub record Meets (store : StoreView) (old new : Session) : Type 0 where
  pub session : IsSession store new
  pub same : new.session ≡ old.session
  pub opened : own_of new ≡ own_of old
  pub kept : notes_of new ≡ notes_of old
  pub sees : GoesOn (seen old) (seen new)
  pub own : own_in (shape_in store) old.session (seen new)
      ≡ own_in (shape_in store) old.session (seen old)
  pub made : events_made new ≡ events_made old
  pub taken : taken_by new ≡ taken_by old
  pub reads : KeepsLend (view_of old) (view_of new)
  pub is_open : StaysOpen store old new
