-- How a run over a row of sessions and workers stands.
use Rattle.std.specs.Prelude.{◌≡◌, ℕ, ◌+◌, ◌<◌, List, Option, get_or, length}
use Rattle.workload_spec.specs.declared.script.Line.{Line}
use Rattle.workload_spec.specs.declared.script.Script.{Script}
use Rattle.run_spec.specs.Occurrences.{Logged}
use Rattle.run_spec.specs.Ran.{RoundRun, shape_of}
use Rattle.run_laws.specs.Rounds.Fronts.{with_rounds}
use Rattle.run_laws.specs.Rounds.Working.{StandsBehind}
use Rattle.shared_store.specs.Store.{StoreView, seen, shape_in}
use Rattle.shared_store.specs.declared.session.Session.{Session}
use Rattle.store_rounds.specs.Logging.{OfLogged}
use Rattle.store_rounds.specs.Row.{AreSessions}
use Rattle.store_rounds.specs.Rounds.{AreNumbered}
use Rattle.store_rounds.specs.Workloads.{Went}

-- Those of a row stand behind finished rounds that ended with this log: the log of each goes
-- on from it, and has no more events of its own.
pub record Standing (store : StoreView) (finished : List Logged) (row : List Session) : Type 0 where
  pub sessions : AreSessions store row
  pub numbers : AreNumbered row
  pub behind : (k : ℕ) (d : Session) → k < length row
      → StandsBehind (shape_in store) finished (k + 1) (seen (get_or row k d))

-- The store is one for the script, and the row has its sessions, and its workers behind them.
pub record IsRowOf (script : Script) (store : StoreView) (row : List Session) : Type 0 where
  pub shape : shape_in store ≡ shape_of script
  pub size : length row ≡ script.sessions + script.workers

-- Rounds of these lines ran on the store, as these rounds, and ended with the log in which all of
-- the row met last. They stand behind the rounds: the log of each goes on from this one, and has no
-- more events of its own. Of the run's log of commits this can be told.
pub record RunsIn
    (script : Script) (store : StoreView) (row : List Session)
    (exported exported_now : Option (List ℕ)) (Logs : OfLogged) (asked : List (List Line))
    (ran added : List RoundRun) (printed : ℕ) (text : List ℕ)
    : Type 0 where
  pub went : Went (with_rounds asked script) ran text exported exported_now
  pub stands : Standing store went.log row
  pub logs : Logs added printed
