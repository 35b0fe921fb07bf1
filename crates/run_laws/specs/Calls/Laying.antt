-- Traces of one log, each with the lends of one session alone, are laid into one trace.
use Rattle.std.specs.Prelude.{◌≡◌, ℕ, ◌+◌, ◌<◌, ◌≤◌, List, map, All}
use Rattle.std.specs.List.{range_with_len}
use Rattle.event_spec.specs.Parts.{Parts, Shape}
use Rattle.run_spec.specs.Occurrences.{Logged, Occurrence, occurrences_from, under}
use Rattle.run_spec.specs.Traces.{Action, LendsFit, OwnLendsFit, as_log, log_in}

-- A trace that has the lends of one session.
pub record OwnTrace : Type 0 where
  pub session : ℕ
  pub trace : List Action

-- It has the events of this log, which begins with these parts.
pub record IsTraceOf (shape : Shape) (parts : Parts) (log : List Logged) (own : OwnTrace)
    : Type 0 where
  pub log_is : log_in own.trace ≡ log
  pub lends : OwnLendsFit shape own.session parts own.trace

-- it is one of so many sessions, from a first one on
abbrev pub IsOneOf : ℕ → ℕ → ℕ → Type 0
IsOneOf first count session = (first ≤ session) × (session < first + count)

-- Of each session, one trace has what the session's own has.
abbrev pub HasOwn : Shape → Parts → List Action → OwnTrace → Type 0
HasOwn shape parts trace own =
    under own.session (occurrences_from shape parts (as_log trace))
    ≡ under own.session (occurrences_from shape parts (as_log own.trace))

-- One trace has the events of the log, the lends of all sessions at their points, and nothing else.
pub record AreLaid
    (shape : Shape) (parts : Parts) (log : List Logged) (first count : ℕ) (owns : List OwnTrace)
    : Type 0 where
  pub trace : List Action
  pub log_is : log_in trace ≡ log
  pub lends : LendsFit shape parts trace
  pub within : All (λ (o : Occurrence). IsOneOf first count o.session)
      (occurrences_from shape parts (as_log trace))
  pub each : All (HasOwn shape parts trace) owns

-- So it is where each of these sessions has a trace, and the log has entries of them alone: a lend
-- leaves the parts as they are, so that the lends of others do not matter to one's own.
abbrev pub LendsAreLaid : Type 0
LendsAreLaid = (shape : Shape) (parts : Parts) (log : List Logged) (first count : ℕ)
    (owns : List OwnTrace)
    → map (λ own. own.session) owns ≡ range_with_len first count
    → All (λ entry. IsOneOf first count entry.session) log
    → All (IsTraceOf shape parts log) owns
    → AreLaid shape parts log first count owns
