-- The history that the rounds of a run leave.
use Rattle.std.specs.Prelude.{ℕ, List, take}
use Rattle.std.specs.List.{flat_map}
use Rattle.isolation_spec.specs.Contents.{History}
use Rattle.workload_spec.specs.declared.script.Script.{Script}
use Rattle.run_spec.specs.Commits.{history_behind}
use Rattle.run_spec.specs.Ran.{RoundRun}

-- The history behind the first so many rounds: the commits that the run began with, and those of
-- these rounds in their order.
abbrev pub history_at : Script → List RoundRun → ℕ → History
history_at script rounds count =
    history_behind script.begun (flat_map (λ round. round.made) (take count rounds))
