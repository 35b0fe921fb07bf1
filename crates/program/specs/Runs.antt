-- How the calls within a run end, with its log and without one.
use Rattle.std.specs.Prelude.{◌≡◌, ◌≢◌, ◌⊎◌, ℕ, Bool, true, false, List, [], Option}
use Rattle.std.specs.Io.KnownBytes.{Appends}
use Rattle.byte_ports.specs.Calls.{AppendsFront}
use Rattle.run_spec.specs.Ran.{IsRunnable, shape_of}
use Rattle.store_rounds.specs.Logging.{OfLogged}
use Rattle.store_rounds.specs.Prepared.{IsFirstFull}
use Rattle.workload_spec.specs.declared.script.Script.{Script}
use Rattle.program.specs.Outcome.{IsSilent, LeavesOutlet, Outside, RoundsEnd, log_too_large}
use Rattle.program.specs.declared.status.Status.{Status}
use Rattle.program.specs.declared.status.Status.TheVariants as status

-- The store was built, and the rounds ended so.
pub record BuiltEnds
    (path : Option (List ℕ)) (keeps : Bool) (Logs : OfLogged) (script : Script) (ended : Status)
    (before now : Outside)
    : Type 0 where
  pub runnable : IsRunnable script
  pub ends : RoundsEnd path keeps Logs script ended before now

-- There was no memory for the store.
pub record FindsNoRoom (Logs : OfLogged) (ended : Status) (before now : Outside) : Type 0 where
  pub told : ended ≡ status.Memory
  pub silent : IsSilent before now
  pub logs : Logs [] 0

-- The commits that the store was to begin with leave a table more rows than it takes, and the line
-- that tells so is printed.
pub record FindsNoSlots
    (Prints : Option (List ℕ) → Option (List ℕ) → List ℕ → Type 0) (Same : Type 0)
    (Logs : OfLogged) (script : Script) (whole ended : Status) (before now : Outside)
    : Type 0 where
  pub told : ended ≡ whole
  pub table : ℕ
  pub full : IsFirstFull (shape_of script) table
  pub same : Same
  pub logs : Logs [] 0
  pub printed : Prints before.printed now.printed log_too_large
  pub outlet : LeavesOutlet before now

-- How a run ends behind the opening of its log, of which this is told; where no store was built, the
-- disk is the same.
abbrev pub OpenedEnds : Option (List ℕ) → Type 0 → OfLogged → Script → Status → Outside → Outside
    → Type 0
OpenedEnds path Same Logs script ended before now =
    BuiltEnds path true Logs script ended before now
    ⊎ FindsNoRoom Logs ended before now
    ⊎ FindsNoSlots Appends Same Logs script status.LogFull ended before now
    ⊎ FindsNoSlots AppendsFront Same Logs script status.OutFault ended before now

-- nothing is told of a log where none is kept
abbrev pub NoLog : OfLogged
NoLog rounds printed = Unit {0}

-- How a run without a log ends.
abbrev pub UnloggedEnds : Option (List ℕ) → Script → Status → Outside → Outside → Type 0
UnloggedEnds path script ended before now =
    BuiltEnds path false NoLog script ended before now ⊎ FindsNoRoom NoLog ended before now

-- The rounds of a run without a log leave the disk as it was, and end with no fault of a log.
pub record IsAlone {D : Type 0} (old new : D) (ended : Status) : Type 0 where
  pub same : new ≡ old
  pub no_fault : ended ≢ status.LogFault
  pub fits : ended ≢ status.GroupTooLong
