-- What a crash leaves of the log of a run: what an opening gives of it ends with one of the rounds.
use Rattle.std.specs.Prelude.{◌≡◌, ◌≢◌, ◌⊎◌, ℕ, ◌≤◌, List, [], length, Option, Some}
use Rattle.cell_model.specs.declared.table.TableDecl.{TableDecl}
use Rattle.isolation_spec.specs.Contents.{History}
use Rattle.log_spec.specs.Reading.{Gives}
use Rattle.workload_spec.specs.declared.script.Script.{Script}
use Rattle.run_spec.specs.Histories.{history_at}
use Rattle.run_spec.specs.Ran.{RoundRun}

-- An opening of the bytes gives the commits that the run began with, and those of some first rounds
-- of it, at least so many.
pub record LeavesRounds
    (script : Script) (rounds : List RoundRun) (least : ℕ) (bytes : List ℕ)
    : Type 0 where
  pub count : ℕ
  pub enough : least ≤ count
  pub within : count ≤ length rounds
  pub gives : Gives script.tables bytes (history_at script rounds count)

-- A run whose log is a file with these bytes begins with these commits: with none where the file is
-- empty, and else with those that an opening gives.
pub record BeginsWith (tables : List TableDecl) (told : Option (List ℕ)) (first : History)
    : Type 0 where
  pub made : told ≡ Some [] → first ≡ []
  pub opened : (bytes : List ℕ) → bytes ≢ [] → told ≡ Some bytes → Gives tables bytes first

-- From the moment on at which the log was made or opened, a crash of the disk leaves some of the
-- run's rounds. So it does before that moment, where the file was not empty, or leaves what a crash
-- might have left before the run. At the run's end it leaves at least the rounds whose lines were
-- printed.
pub record Survives
    {D : Type 0} (told : D → Option (List ℕ)) (moment : D → ℕ)
    (left_since : D → ℕ → List ℕ → Type 0) (may_leave : D → List ℕ → Type 0) (old new : D)
    (script : Script) (rounds : List RoundRun) (printed : ℕ)
    : Type 0 where
  pub opened : ℕ
  pub began : moment old ≤ opened
  pub ended : opened ≤ moment new
  pub any_moment : (c : List ℕ) → left_since new opened c → LeavesRounds script rounds 0 c
  pub from_start : told old ≢ Some [] → (c : List ℕ) → left_since new (moment old) c
      → may_leave old c ⊎ LeavesRounds script rounds 0 c
  pub kept : (c : List ℕ) → may_leave new c → LeavesRounds script rounds printed c
