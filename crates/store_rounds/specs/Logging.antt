-- What the disk of a run's log has of the run's rounds.
use Rattle.std.specs.Prelude.{◌≡◌, ◌≢◌, ℕ, ◌+◌, ◌<◌, ◌≤◌, ◌^◌, List, [], ◌∷◌, ◌++◌, length, Option}
use Rattle.std.specs.Prelude.{IfSome}
use Rattle.commit_log.specs.Commits.{StandsOf}
use Rattle.commit_log.specs.declared.log.Log.{Log}
use Rattle.disk_ports.specs.Crashes.{LeavesOnly}
use Rattle.isolation_spec.specs.Contents.{History}
use Rattle.log_spec.specs.LogText.{payload_text}
use Rattle.run_laws.specs.Recovery.Leaves.{LeavesRounds}
use Rattle.run_spec.specs.Histories.{history_at}
use Rattle.run_spec.specs.Ran.{RoundRun}
use Rattle.workload_spec.specs.declared.script.Script.{Script}

-- What is told of a run's log: below `Logs rounds printed` says it of these rounds, of which so many
-- were printed, were it in part.
abbrev pub OfLogged : Type 1
OfLogged = List RoundRun → ℕ → Type 0

-- A crash of the disk at any moment of these rounds leaves some first ones of them, and at their end
-- at least those that were printed.
pub record ComesThrough
    {D : Type 0} (moment : D → ℕ) (left_since : D → ℕ → List ℕ → Type 0)
    (may_leave : D → List ℕ → Type 0) (old new : D) (script : Script) (rounds : List RoundRun)
    (printed : ℕ)
    : Type 0 where
  pub any_moment : LeavesOnly moment left_since old new (LeavesRounds script rounds 0)
  pub kept : (c : List ℕ) → may_leave new c → LeavesRounds script rounds printed c

-- So it does with a log, if that stood on the disk with the commits that the run began with.
abbrev pub LogsRounds : {D : Type 0} → (D → Option (List ℕ)) → (D → ℕ)
    → (D → ℕ → List ℕ → Type 0) → (D → List ℕ → Type 0) → D → D → Option Log → Script → OfLogged
LogsRounds told moment left_since may_leave old new log script rounds printed = IfSome log
    (λ log. StandsOf script.tables (told old) (may_leave old) script.begun log
    → ComesThrough moment left_since may_leave old new script rounds printed)

-- This is what the last round adds to the history.
abbrev pub AddsLast : Script → List RoundRun → RoundRun → History → Type 0
AddsLast script whole last sets = history_at script (whole ++ last ∷ []) (length whole + 1)
    ≡ history_at script (whole ++ last ∷ []) (length whole) ++ sets

-- What the last round adds to the history is too long for a record of a log.
pub record IsTooLong (script : Script) (whole : List RoundRun) (last : RoundRun) : Type 0 where
  pub sets : History
  pub adds : AddsLast script whole last sets
  pub long : 2 ^ 32 ≤ length (payload_text sets)

-- It is something, and a record of a log takes it.
pub record FitsRecord (script : Script) (whole : List RoundRun) (last : RoundRun) : Type 0 where
  pub sets : History
  pub adds : AddsLast script whole last sets
  pub some : sets ≢ []
  pub short : length (payload_text sets) < 2 ^ 32
