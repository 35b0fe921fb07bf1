-- A round in which all met is done.
use Rattle.std.specs.Prelude.{◌≡◌, ◌+◌, ◌≤◌, List, ◌++◌, map, All}
use Rattle.event_spec.specs.Replay.{opening}
use Rattle.workload_spec.specs.declared.script.Line.{Line}
use Rattle.workload_spec.specs.declared.script.Script.{Script}
use Rattle.run_spec.specs.Handed.{Brings, parts_left}
use Rattle.run_spec.specs.Occurrences.{Logged, occurrences_from, occurrences_in}
use Rattle.run_spec.specs.Ran.{IsRound, Share, agenda_of, agendas_in, shape_of}
use Rattle.run_spec.specs.Traces.{Action, LendsFit, as_log, log_in}

-- the entry stands under a session or worker of the script
abbrev pub IsNamedIn : Script → Logged → Type 0
IsNamedIn script entry =
    (1 ≤ entry.session) × (entry.session ≤ script.sessions + script.workers)

-- A round with these entries of the log, behind finished ones: with what all lent in it, it is what
-- each did.
pub record IsDoneBehind
    (script : Script) (finished : List Action) (now : List Logged) (shares : List Share)
    : Type 0 where
  pub trace : List Action
  pub log_is : now ≡ log_in trace
  pub lends : LendsFit (shape_of script) (parts_left (shape_of script) (log_in finished)) trace
  pub round : IsRound
      script
      (occurrences_in (shape_of script) (as_log finished))
      (record {
        made = occurrences_from
            (shape_of script)
            (parts_left (shape_of script) (log_in finished))
            (as_log trace);
        shares = shares;
      })

-- What each session and each worker brings to the end of a round of these lines is its share of it,
-- between the finished rounds and the log in which all met.
abbrev pub MetRoundsAreDone : Type 0
MetRoundsAreDone = (script : Script) (lines : List Line) (finished : List Action)
    (now : List Logged) (shares : List Share)
    → LendsFit (shape_of script) (opening (shape_of script)) finished
    → map agenda_of shares ≡ agendas_in script lines
    → All (IsNamedIn script) now
    → All (Brings script (log_in finished) (log_in finished ++ now)) shares
    → IsDoneBehind script finished now shares
