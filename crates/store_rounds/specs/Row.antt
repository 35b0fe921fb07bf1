-- Sessions in a row, and how they meet.
use Rattle.std.specs.Prelude.{◌≡◌, ℕ, ◌-◌, ◌<◌, List, All, get_or, length}
use Rattle.event_spec.specs.Replay.{IsLawfulLog}
use Rattle.run_spec.specs.Handed.{GoesOn, own_in}
use Rattle.run_spec.specs.Occurrences.{Logged}
use Rattle.run_laws.specs.Rounds.Rounds.{made_in}
use Rattle.shared_store.specs.Store.{IsNamed, KeepsOn, StoreView, events_made, reads_of, seen, shape_in}
use Rattle.store_rounds.specs.Sessions.{IsFreeSession}
use Rattle.shared_store.specs.declared.session.Session.{Session}

-- each of the row is a session of the store
abbrev pub AreSessions : StoreView → List Session → Type 0
AreSessions store row = (k : ℕ) (d : Session) → k < length row → IsFreeSession store (get_or row k d)

-- A session may have seen more of the log, and made no event. What it read is what it was, and what
-- it keeps of its commits.
pub record LooksOn (store : StoreView) (old new : Session) : Type 0 where
  pub is_session : IsFreeSession store new
  pub same : new.session ≡ old.session
  pub kept : reads_of new ≡ reads_of old
  pub keeps : KeepsOn store old new
  pub saw : GoesOn (seen old) (seen new)
  pub nothing_more
      : own_in (shape_in store) new.session (seen new)
      ≡ own_in (shape_in store) old.session (seen old)
  pub made : events_made new ≡ events_made old

-- Each of a row looked on.
pub record LookOn (store : StoreView) (old new : List Session) : Type 0 where
  pub size : length new ≡ length old
  pub each : (k : ℕ) (d : Session) → k < length old
      → LooksOn store (get_or old k d) (get_or new k d)

-- One of a row met the one before it: they looked on, and each saw what the other had seen.
pub record Meet (store : StoreView) (second : ℕ) (old new : List Session) : Type 0 where
  pub look_on : LookOn store old new
  pub shown : (d : Session)
      → GoesOn (seen (get_or old (second - 1) d)) (seen (get_or new second d))
  pub shown_back : (d : Session)
      → GoesOn (seen (get_or old second d)) (seen (get_or new (second - 1) d))

-- The last of a row saw all that the others had seen.
pub record ShowAlong (store : StoreView) (old new : List Session) : Type 0 where
  pub look_on : LookOn store old new
  pub shown : (k : ℕ) (d : Session) → k < length old
      → GoesOn (seen (get_or old k d)) (seen (get_or new (length old - 1) d))

-- All of a row saw what the last had seen.
pub record SeeBack (store : StoreView) (old new : List Session) : Type 0 where
  pub look_on : LookOn store old new
  pub saw : (k : ℕ) (d : Session) → k < length old
      → GoesOn (seen (get_or old (length old - 1) d)) (seen (get_or new k d))

-- A session met others in this log: it had seen a front of it, and now has seen all of it.
pub record MetIn (store : StoreView) (met : List Logged) (old new : Session) : Type 0 where
  pub looks_on : LooksOn store old new
  pub shown : GoesOn (seen old) met
  pub saw : GoesOn met (seen new)

-- All of a row met in one log of the store.
pub record Met (store : StoreView) (old new : List Session) : Type 0 where
  pub met : List Logged
  pub lawful : IsLawfulLog (shape_in store) (made_in met)
  pub named : All (IsNamed (shape_in store).passes) met
  pub size : length new ≡ length old
  pub each : (k : ℕ) (d : Session) → k < length old
      → MetIn store met (get_or old k d) (get_or new k d)
