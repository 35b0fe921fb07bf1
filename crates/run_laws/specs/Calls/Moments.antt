-- The calls of a round in the order in which they came about: each at the last of its events.
use Rattle.std.specs.Prelude.{◌≡◌, ℕ, ◌==◌, List, [], ◌∷◌, ◌++◌, map, filter, Option, None, Some}
use Rattle.std.specs.Prelude.{if◌then◌else◌}
use Rattle.std.specs.List.{filter_map, flat_map}
use Rattle.outcome_spec.specs.Entries.{Entry}
use Rattle.run_spec.specs.Calls.{Call}
use Rattle.run_spec.specs.Occurrences.{Occurrence, under}

-- A call and its printed reply, if it has one.
pub record Lined : Type 0 where
  pub call : Call
  pub printed : Option Entry

-- A call that is not ended, with its events that are to come.
pub record Pending : Type 0 where
  pub made : List Occurrence
  pub line : Lined

-- An event, or none, and the call that ends there, if one does.
pub record Moment : Type 0 where
  pub session : ℕ
  pub event : Option Occurrence
  pub line : Option Lined

-- moments that came about, and the calls that are pending behind them
pub record Advanced : Type 0 where
  pub moments : List Moment
  pub pending : List Pending

-- the moments of one event, by the events that are to come of the session's first pending call
abbrev pub advanced_by
    : ℕ → Occurrence → List Occurrence → Lined → Advanced → List Pending → Advanced
advanced_by session made [] line behind calls =
    record behind {
      moments = record { session = session; event = None; line = Some line } ∷ behind.moments;
    }
advanced_by session made (first ∷ []) line behind calls =
    record {
      moments = record { session = session; event = Some made; line = Some line } ∷ [];
      pending = calls;
    }
advanced_by session made (first ∷ next ∷ rest) line behind calls = record {
  moments = record { session = session; event = Some made; line = None } ∷ [];
  pending = record { made = next ∷ rest; line = line } ∷ calls;
}

-- Calls without an event come about at the next event of their session; a call's last event ends
-- it.
abbrev pub advanced : ℕ → Occurrence → List Pending → Advanced
advanced session made [] = record { moments = []; pending = [] }
advanced session made (call ∷ calls) =
    advanced_by session made call.made call.line (advanced session made calls) calls

-- a call that has no event left comes about
abbrev pub ended_at : ℕ → Pending → Moment
ended_at session call = record { session = session; event = None; line = Some call.line }

-- the pending calls of each session, with those of one set anew
abbrev pub with_pending : (ℕ → List Pending) → ℕ → List Pending → ℕ → List Pending
with_pending calls session new other = if other == session then new else calls other

-- The moments of a round, by its events and the calls of each session. Calls without an event that
-- are left come about at its end.
abbrev pub merged : List ℕ → List Occurrence → (ℕ → List Pending) → List Moment
merged sessions [] calls = flat_map (λ session. map (ended_at session) (calls session)) sessions
merged sessions (made ∷ others) calls =
    (advanced made.session made (calls made.session)).moments
    ++ merged
    sessions
    others
    (with_pending calls made.session (advanced made.session made (calls made.session)).pending)

abbrev pub events_at : List Moment → List Occurrence
events_at moments = filter_map (λ moment. moment.event) moments

-- the calls of one session that ended
abbrev pub lines_at : ℕ → List Moment → List Lined
lines_at session moments =
    filter_map (λ moment. moment.line) (filter (λ moment. moment.session == session) moments)

abbrev pub lines_of : List Pending → List Lined
lines_of calls = map (λ call. call.line) calls

-- each session's events are those of its calls
abbrev pub AreParted : List Occurrence → (ℕ → List Pending) → Type 0
AreParted made calls =
    (session : ℕ) → under session made ≡ flat_map (λ call. call.made) (calls session)

-- Then the moments have the events in the order of the log, and each session's calls in their
-- order.
abbrev pub MomentsAreTheRound : Type 0
MomentsAreTheRound = (sessions : List ℕ) (made : List Occurrence) (calls : ℕ → List Pending)
    → AreParted made calls
    → (events_at (merged sessions made calls) ≡ made)
    × ((session : ℕ) → filter (λ other. other == session) sessions ≡ session ∷ []
    → lines_at session (merged sessions made calls) ≡ lines_of (calls session))
