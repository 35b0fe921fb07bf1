-- The machine goes along the log of a run.
use Rattle.std.specs.Prelude.{ℕ, List, []}
use Rattle.event_spec.specs.Replay.{opening}
use Rattle.event_spec.specs.Sound.{IsShape}
use Rattle.isolation_spec.specs.Machine as machine
use Rattle.workload_spec.specs.declared.script.Script.{Script}
use Rattle.run_spec.specs.Occurrences.{Logged}
use Rattle.run_spec.specs.Ran.{Ran, shape_of}
use Rattle.run_laws.specs.Calls.Along.{GoesAlong}

-- Each event of a run stands under its own session, so the machine goes along its log.
abbrev pub RunsGoAlong : Type 0
RunsGoAlong = (script : Script) (log : List Logged) (text : List ℕ) → IsShape (shape_of script)
    → Ran script log text
    → GoesAlong
    (shape_of script)
    (opening (shape_of script))
    []
    (machine.opening_from script.begun)
    log
