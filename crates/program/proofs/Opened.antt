-- How a run with a log ends, by what stands behind the opening of the log; and one without.
use Rattle.std.proofs.Common.{◌≡◌, ◌≢◌, ℕ, true, false, List, [], Option, None, Some, refl, sym, subst, inl, inr}
use Rattle.std.specs.Option.{ForSome}
use Rattle.std.specs.Io.KnownBytes.{Appends}
use Rattle.byte_ports.specs.Calls.{AppendsFront}
use Rattle.isolation_spec.specs.Contents.{History}
use Rattle.log_spec.specs.Reading.{IsNoLog}
use Rattle.log_text.specs.Lines.{log_text}
use Rattle.run_spec.specs.Ran.{IsRunnable, RoundRun, shape_of}
use Rattle.store_rounds.specs.Logging.{OfLogged}
use Rattle.store_rounds.specs.Prepared.{IsFirstFull, begun_with}
use Rattle.workload_spec.specs.declared.script.Script.{Script}
use Rattle.program.specs.Outcome.{Begins, HasNoLog, IsBuilt, IsLogFull, IsStartedFor, LeavesOutlet, LogKeeps, OfDisk, Outside, RoundsEnd, ScriptEnds, log_too_large}
use Rattle.program.specs.Played.{LineEnds}
use Rattle.program.specs.Runs.{BuiltEnds, FindsNoSlots, NoLog, OpenedEnds, UnloggedEnds}
use Rattle.program.specs.declared.status.Status.{Status}
use Rattle.program.specs.declared.status.Status.TheVariants as status
use Rattle.program.proofs.Played.{rounds_told}

-- ---- behind the store

-- how a run ends whose store was built
module _ (path log : Option (List ℕ)) (disk : OfDisk) (script : Script) (before now : Outside) where
  built_ends : (ended : Status) → IsBuilt path log disk script ended before now → ScriptEnds path log disk script ended before now
  built_ends status.Done built = built
  built_ends status.OutFault built = inr (inr built)
  built_ends status.ExportFault built = built
  built_ends status.Memory built = inr (inr built)
  built_ends status.LogFault built = inr built
  built_ends status.GroupTooLong built = built
  built_ends _ built = absurd built.ends

-- ---- with a log

module _ (path : Option (List ℕ)) (name : List ℕ) (disk : OfDisk) (script : Script) (first : History) (Logs : OfLogged) (Same : Type 0) (before now : Outside)
    (begins : Begins (Some name) disk script.tables first)
    (keeps : (rounds : List RoundRun) (printed : ℕ) → Logs rounds printed → disk.survives (begun_with first script) rounds printed)
    (reads : Same → (table : ℕ) → IsFirstFull (shape_of (begun_with first script)) table → disk.only_read) where
  built : (ended : Status) → BuiltEnds path true Logs (begun_with first script) ended before now → IsBuilt path (Some name) disk script ended before now
  built ended ends = record {
    first = first;
    begins = begins;
    runnable = ends.runnable;
    ends = rounds_told path true Logs (LogKeeps (Some name) disk (begun_with first script)) (begun_with first script) before now keeps ended ends.ends;
  }

  full : (Prints : Option (List ℕ) → Option (List ℕ) → List ℕ → Type 0) (whole ended : Status)
      → FindsNoSlots Prints Same Logs (begun_with first script) whole ended before now → IsLogFull Prints (Some name) disk script before now
  full Prints whole ended ends = record {
    kept = refl;
    first = first;
    begins = begins;
    table = ends.table;
    full = ends.full;
    only_read = reads ends.same ends.table ends.full;
    logs = keeps [] 0 ends.logs;
    printed = ends.printed;
    outlet = ends.outlet;
  }

  pub opened_ends : (ended : Status) → OpenedEnds path Same Logs (begun_with first script) ended before now → ScriptEnds path (Some name) disk script ended before now
  opened_ends ended (inl ends) = built_ends path (Some name) disk script before now ended (built ended ends)
  opened_ends ended (inr (inl ends)) =
      subst (λ (e : Status). ScriptEnds path (Some name) disk script e before now) (sym ends.told)
      (inr (inl (record { first = first; begins = begins; silent = ends.silent; logs = keeps [] 0 ends.logs })))
  opened_ends ended (inr (inr (inl ends))) =
      subst (λ (e : Status). ScriptEnds path (Some name) disk script e before now) (sym ends.told) (full Appends status.LogFull ended ends)
  opened_ends ended (inr (inr (inr ends))) =
      subst (λ (e : Status). ScriptEnds path (Some name) disk script e before now) (sym ends.told) (inr (inl (full AppendsFront status.OutFault ended ends)))

-- a file that is no log of the tables
module _ (path : Option (List ℕ)) (name : List ℕ) (disk : OfDisk) (script : Script) (place : ℕ) (before now : Outside)
    (started : IsStartedFor (Some name) disk) (none : ForSome disk.file (λ bytes. (bytes ≢ []) × IsNoLog script.tables bytes place))
    (reads : disk.only_read) (outlet : LeavesOutlet before now) where
  no_log : (Prints : Option (List ℕ) → Option (List ℕ) → List ℕ → Type 0) → Prints before.printed now.printed (log_text script.tables [] (Some place))
      → HasNoLog Prints (Some name) disk script before now
  no_log Prints printed = record { started = started; place = place; none = none; only_read = reads; printed = printed; outlet = outlet }

  pub no_log_ends : (ended : Status) → LineEnds status.NotALog (log_text script.tables [] (Some place)) ended before.printed now.printed
      → ScriptEnds path (Some name) disk script ended before now
  no_log_ends ended (inl (is, printed)) =
      subst (λ (e : Status). ScriptEnds path (Some name) disk script e before now) (sym is) (no_log Appends printed)
  no_log_ends ended (inr (inl (is, printed))) =
      subst (λ (e : Status). ScriptEnds path (Some name) disk script e before now) (sym is) (inl (no_log AppendsFront printed))
  no_log_ends ended (inr (inr (is, same))) =
      subst (λ (e : Status). ScriptEnds path (Some name) disk script e before now) (sym is)
      (inl (record { started = started; only_read = reads; silent = record { printed = same; outlet = outlet } }))

-- ---- without a log

-- a run without a log begins with what its workload does, which is nothing
pub unlogged_ends : (path : Option (List ℕ)) (disk : OfDisk) (script : Script) (ended : Status) (before now : Outside) → script.begun ≡ []
    → UnloggedEnds path script ended before now → ScriptEnds path None disk script ended before now
unlogged_ends path disk script ended before now begun (inl ends) =
    built_ends path None disk script before now ended (record {
      first = script.begun;
      begins = begun;
      runnable = ends.runnable;
      ends = rounds_told path false NoLog (LogKeeps None disk script) script before now (λ rounds printed told. tt) ended ends.ends;
    })
unlogged_ends path disk script ended before now begun (inr ends) =
    subst (λ (e : Status). ScriptEnds path None disk script e before now) (sym ends.told)
    (inr (inl (record { first = script.begun; begins = begun; silent = ends.silent; logs = tt })))

-- the rounds of a run without a log, over a store that was built for its workload
pub unlogged_built : (path : Option (List ℕ)) (Logs : OfLogged) (script other : Script) (ended : Status) (before now : Outside)
    → other ≡ script → IsRunnable script → RoundsEnd path false Logs other ended before now → UnloggedEnds path script ended before now
unlogged_built path Logs script other ended before now is runnable ends = inl (record {
  runnable = runnable;
  ends = rounds_told path false Logs NoLog script before now (λ rounds printed told. tt) ended
      (subst (λ (s : Script). RoundsEnd path false Logs s ended before now) is ends);
})

-- ---- behind the opening

module _ (path : Option (List ℕ)) (Same : Type 0) (Logs : Script → OfLogged) (script : Script) (ended : Status) (before now : Outside) where
  -- the rounds of a run with a log, over a store that was built for its workload
  pub opened_built : (other : Script) → other ≡ script → IsRunnable script → RoundsEnd path true (Logs other) other ended before now
      → OpenedEnds path Same (Logs script) script ended before now
  opened_built other is runnable ends = inl (record {
    runnable = runnable;
    ends = subst (λ (s : Script). RoundsEnd path true (Logs s) s ended before now) is ends;
  })

  -- a log that is too large
  pub too_large_ends : (table : ℕ) → IsFirstFull (shape_of script) table → Same → Logs script [] 0 → LeavesOutlet before now → ended ≢ status.Memory
      → LineEnds status.LogFull log_too_large ended before.printed now.printed → OpenedEnds path Same (Logs script) script ended before now
  too_large_ends table full same logs outlet spared (inl (is, printed)) = inr (inr (inl (record {
    told = is;
    table = table;
    full = full;
    same = same;
    logs = logs;
    printed = printed;
    outlet = outlet;
  })))
  too_large_ends table full same logs outlet spared (inr (inl (is, printed))) = inr (inr (inr (record {
    told = is;
    table = table;
    full = full;
    same = same;
    logs = logs;
    printed = printed;
    outlet = outlet;
  })))
  too_large_ends table full same logs outlet spared (inr (inr (is, printed))) = absurd (spared is)
