-- How one's work in a round is put together, from call to call and from round to round.
use Rattle.std.specs.Prelude.{◌≡◌, ℕ, Bool, List, [], ◌∷◌, ◌++◌}
use Rattle.event_spec.specs.Parts.{Shape}
use Rattle.outcome_spec.specs.Forms.{is_worker}
use Rattle.workload_spec.specs.declared.script.Script.{Script}
use Rattle.run_spec.specs.Calls.{Call}
use Rattle.run_spec.specs.Handed.{Brings, Called, GoesOn, Works, own_in}
use Rattle.run_spec.specs.Occurrences.{Logged}
use Rattle.run_spec.specs.Ran.{Share, session_of, shape_of}

-- Before the first call of a round nothing was done.
abbrev pub NothingDone : Type 0
NothingDone = (shape : Shape) (worker : Bool) (session : ℕ) (seen : List Logged)
    → Works shape worker session seen [] seen

-- One call more.
abbrev pub WorkGoesOn : Type 0
WorkGoesOn = (shape : Shape) (worker : Bool) (session : ℕ) (began seen new : List Logged)
    (calls : List Call) (call : Call)
    → Works shape worker session began calls seen
    → Called shape worker session seen new call
    → Works shape worker session began (calls ++ call ∷ []) new

-- One stands behind finished rounds: one's pass saw all of them, and made no event since.
pub record StandsBehind (shape : Shape) (finished : List Logged) (session : ℕ) (seen : List Logged)
    : Type 0 where
  pub saw : GoesOn finished seen
  pub nothing_yet : own_in shape session seen ≡ own_in shape session finished

-- One met the others: they saw what one had seen, one saw the log in which all met, and made no
-- event.
pub record MeetsIn (shape : Shape) (met : List Logged) (session : ℕ) (seen later : List Logged)
    : Type 0 where
  pub shown : GoesOn seen met
  pub saw : GoesOn met later
  pub nothing_more : own_in shape session later ≡ own_in shape session seen

-- One who stands behind finished rounds, works and meets the others brings a share, and then stands
-- behind the round too.
pub record Ends
    (script : Script) (finished met later : List Logged) (share : Share) : Type 0 where
  pub goes_on : GoesOn finished met
  pub brings : Brings script finished met share
  pub stands : StandsBehind (shape_of script) met (session_of script share.who) later

abbrev pub WorkEnds : Type 0
WorkEnds = (script : Script) (finished began ended met later : List Logged) (share : Share)
    → StandsBehind (shape_of script) finished (session_of script share.who) began
    → Works
    (shape_of script)
    (is_worker share.who)
    (session_of script share.who)
    began
    share.calls
    ended
    → MeetsIn (shape_of script) met (session_of script share.who) ended later
    → Ends script finished met later share

-- A log that goes on from one that goes on from a first goes on from the first. So sessions that
-- meet one after another, along a row and back, all meet.
abbrev pub GoesOnFurther : Type 0
GoesOnFurther = (first second third : List Logged)
    → GoesOn first second → GoesOn second third → GoesOn first third
