-- What a store's call and a round's end hand up, each by the logs that one's own pass has seen. Of
-- it a run is put together.
use Rattle.std.specs.Prelude.{◌≡◌, ℕ, Bool, List, [], ◌∷◌, ◌++◌, map}
use Rattle.event_spec.specs.Parts.{Parts, Shape}
use Rattle.event_spec.specs.Replay.{replay}
use Rattle.outcome_spec.specs.Forms.{is_worker}
use Rattle.workload_spec.specs.declared.script.Script.{Script}
use Rattle.run_spec.specs.Calls.{Call, IsCall}
use Rattle.run_spec.specs.Occurrences.{Logged, Occurrence, occurrences_from, occurrences_in, under}
use Rattle.run_spec.specs.Ran.{Share, session_of, shape_of}
use Rattle.run_spec.specs.Traces.{Action, OwnLendsFit, as_log, log_in}

-- the parts that a log leaves
abbrev pub parts_left : Shape → List Logged → Parts
parts_left shape log = replay shape (map (λ entry. entry.made) log)

-- one's own events in a log
abbrev pub own_in : Shape → ℕ → List Logged → List Occurrence
own_in shape session log = under session (occurrences_in shape log)

-- a log goes on from another
abbrev pub GoesOn : List Logged → List Logged → Type 0
GoesOn old new = (more : List Logged) × (new ≡ old ++ more)

-- From a log that one's pass had seen to a later one, one made these events and lends: the later
-- log goes on from the old one by a trace that has one's own lends at their points.
pub record Stretch
    (shape : Shape) (session : ℕ) (old new : List Logged) (made : List Occurrence) : Type 0 where
  pub trace : List Action
  pub goes_on : new ≡ old ++ log_in trace
  pub lends : OwnLendsFit shape session (parts_left shape old) trace
  pub own : under session (occurrences_from shape (parts_left shape old) (as_log trace)) ≡ made

-- A call of one whose pass had seen the old log and hands back the new one: of one's own there are
-- since then the events and lends of the call.
pub record Called
    (shape : Shape) (worker : Bool) (session : ℕ) (old new : List Logged) (call : Call)
    : Type 0 where
  pub stretch : Stretch shape session old new call.made
  pub is_call : IsCall shape worker session (own_in shape session old) call

-- Calls one behind the other; behind the last one's pass may see more of the log.
abbrev pub Works : Shape → Bool → ℕ → List Logged → List Call → List Logged → Type 0
Works shape worker session old [] new =
    GoesOn old new × (own_in shape session new ≡ own_in shape session old)
Works shape worker session old (call ∷ calls) new =
    (behind : List Logged)
    × Called shape worker session old behind call
    × Works shape worker session behind calls new

-- What one brings to a round's end, behind the finished rounds: one had seen them and made no
-- further event of one's own, worked, met the others in the log `met`, and saw a later log that has
-- no further event of one's own.
pub record Brings (script : Script) (finished met : List Logged) (share : Share) : Type 0 where
  pub began : List Logged
  pub ended : List Logged
  pub later : List Logged
  pub saw : GoesOn finished began
  pub nothing_yet
      : own_in (shape_of script) (session_of script share.who) began
      ≡ own_in (shape_of script) (session_of script share.who) finished
  pub works : Works
      (shape_of script)
      (is_worker share.who)
      (session_of script share.who)
      began
      share.calls
      ended
  pub in_met : GoesOn ended met
  pub seen : GoesOn met later
  pub nothing_more
      : own_in (shape_of script) (session_of script share.who) later
      ≡ own_in (shape_of script) (session_of script share.who) ended
