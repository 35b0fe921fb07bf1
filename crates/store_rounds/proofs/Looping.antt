-- A run with its log, round by round.
use Rattle.std.proofs.Common.{◌≡◌, ℕ, ◌+◌, ◌≤◌, ◌^◌, false, List, [], ◌∷◌, ◌++◌, length, Option, None, is_some, Ok, sym, ap, ◌∙◌, subst, append_assoc, arith}
use mathlib.Core.Logic.{inr}
use Rattle.std.specs.Prelude.{All, IfSome}
use Rattle.std.specs.Io.KnownBytes.{Appends}
use Rattle.std.proofs.lemmas.List.{length_push}
use Rattle.byte_ports.specs.Calls.{AppendsFront}
use Rattle.commit_log.specs.declared.log.Log.{Log}
use Rattle.workload_spec.specs.declared.script.Line.{Line}
use Rattle.workload_spec.specs.declared.script.Script.{Script}
use Rattle.run_spec.specs.Ran.{IsRunnable, RoundRun, shape_of}
use Rattle.run_laws.proofs.Rounds.Fronts.{first_rounds_are_valid}
use Rattle.run_laws.specs.Rounds.Fronts.{with_rounds}
use Rattle.shared_store.specs.Building.{IsNewRow, StartsKeeping}
use Rattle.shared_store.specs.Store.{StoreView, shape_in}
use Rattle.shared_store.specs.declared.session.Session.{Session}
use Rattle.store_rounds.specs.Adding.{EndsRound}
use Rattle.store_rounds.specs.Crews.{crew_of}
use Rattle.store_rounds.specs.Duties.{IsWholeText}
use Rattle.store_rounds.specs.Grouped.{MayHaveHandedOver}
use Rattle.store_rounds.specs.Logging.{LogsRounds}
use Rattle.store_rounds.specs.Rounds.{RanRound, RoundStops}
use Rattle.store_rounds.specs.Runs.{RunsIn}
use Rattle.store_rounds.specs.Workloads.{GoesCutOff, GoesPart, GoesWhole, IsUnlogged, added_by}
use Rattle.store_rounds.specs.declared.duty.Duty.{Duty}
use Rattle.store_rounds.specs.declared.fault.RunFault.{RunFault}
use Rattle.store_rounds.specs.declared.fault.RunFault.TheVariants as fault
use Rattle.store_rounds.proofs.Logged.{AddsWhatIsTaken, KeepsNoneTaken, LogAlone, LogStands, ends_inside, failed_as, is_added_at, log_begins, log_goes_on, log_stops, logs_all, round_too_long, round_unadded, unlogged_ends}
use Rattle.store_rounds.proofs.Running.{RoundDone, Running, adds, keeps_none, round, running_begins, running_ends, running_goes_on, running_is_cut_off}
use Rattle.store_rounds.proofs.Scripts.{may_open}
use Rattle.store_rounds.proofs.Stopping.{running_stops, running_too_long, running_unadded, running_unshown}

-- ---- what a run asks of its script

-- The first rounds of a script that can be run are one.
front_runs : (script : Script) (asked rest : List (List Line)) (lines : List Line) → asked ++ lines ∷ rest ≡ script.rounds → IsRunnable script
    → IsRunnable (with_rounds (asked ++ lines ∷ []) script)
front_runs script [] rest lines split valid = record { valid = first_rounds_are_valid script lines [] rest (sym split) valid.valid; shape = valid.shape }
front_runs script (first ∷ asked) rest lines split valid = record {
  valid = first_rounds_are_valid script first (asked ++ lines ∷ []) rest
      (sym split ∙ ap (λ (rounds : List (List Line)). first ∷ rounds) (sym (append_assoc asked (lines ∷ []) rest))) valid.valid;
  shape = valid.shape;
}

-- Its tables are few.
few_tables : (script : Script) → IsRunnable script → length script.tables ≤ 2 ^ 8
few_tables script valid = let few = (may_open script valid.valid).few in omega (arith, few)

module _
    {D : Type 0} (told : D → Option (List ℕ)) (moment : D → ℕ) (left_since : D → ℕ → List ℕ → Type 0) (may_leave : D → List ℕ → Type 0)
  where
    -- Rounds ran, and the log has them.
    pub record Looping
        (script : Script) (store : StoreView) (row : List Session) (asked : List (List Line)) (before now exported exported_now : Option (List ℕ)) (number : ℕ)
        (first disk : D) (its log : Option Log)
        : Type 0 where
      pub running : Running script store row asked before now exported exported_now number
      pub logs : LogStands told moment left_since may_leave script store row first disk its log running.rounds

module _
    {D : Type 0} (told : D → Option (List ℕ)) (moment : D → ℕ) (left_since : D → ℕ → List ℕ → Type 0) (may_leave : D → List ℕ → Type 0)
    (counts_now : (disk : D) (t : ℕ) (c : List ℕ) → t ≤ moment disk → may_leave disk c → left_since disk t c)
    (only_now : (disk : D) (c : List ℕ) → left_since disk (moment disk) c → may_leave disk c)
    (script : Script) (store : StoreView) (first : D) (its : Option Log) (before exported : Option (List ℕ))
  where
    -- before the first round
    pub looping_begins : (row : List Session) → IsRunnable script → shape_in store ≡ shape_of script → IsNewRow store (script.sessions + script.workers) row
        → All (StartsKeeping (is_some its)) row → IfSome its (λ log. log.payloads.failed ≡ false)
        → Looping told moment left_since may_leave script store row [] before before exported exported 0 first first its its
    looping_begins row valid shape new starts works = record {
      running = running_begins script store row before exported valid shape new;
      logs = log_begins told moment left_since may_leave counts_now only_now script store (script.sessions + script.workers) row first its (omega arith) new starts works;
    }

    -- all rounds ran
    pub looping_ends : (row : List Session) (asked : List (List Line)) (now exported_now : Option (List ℕ)) (number : ℕ) (disk : D) (log : Option Log) → IsRunnable script
        → Looping told moment left_since may_leave script store row asked before now exported exported_now number first disk its log → asked ≡ script.rounds
        → GoesWhole (RunsIn script store row exported exported_now (LogsRounds told moment left_since may_leave first disk its script)) script before now
    looping_ends row asked now exported_now number disk log valid looping all =
        running_ends script store row asked before now exported exported_now number (LogsRounds told moment left_since may_leave first disk its script) valid looping.running
        (logs_all told moment left_since may_leave counts_now only_now script store row first disk its log looping.running.rounds looping.logs) all

    -- without a log the disk is as it was
    pub looping_alone : (row : List Session) (asked : List (List Line)) (now exported_now : Option (List ℕ)) (number : ℕ) (disk : D) (log : Option Log)
        → Looping told moment left_since may_leave script store row asked before now exported exported_now number first disk its log → its ≡ None
        → LogAlone told moment left_since may_leave first disk log
    looping_alone row asked now exported_now number disk log looping none =
        subst (λ (l : Option Log). LogStands told moment left_since may_leave script store row first disk l log looping.running.rounds) none looping.logs

    module _ (old mid : List Session) (asked rest : List (List Line)) (now exported_now exported_later : Option (List ℕ)) (number : ℕ) (lines : List Line) (disk : D) (log : Option Log)
        (valid : IsRunnable script) (split : asked ++ lines ∷ rest ≡ script.rounds)
        (looping : Looping told moment left_since may_leave script store old asked before now exported exported_now number first disk its log) where
      -- a round that was not begun, or was cut off at an export
      pub looping_stops : (failed : RunFault) → RoundStops store (crew_of script) old mid lines exported_now exported_later failed
          → GoesPart (RunsIn script store mid exported exported_later (LogsRounds told moment left_since may_leave first disk its script)) script failed before now
      looping_stops failed stops =
          running_stops script store old mid asked rest before now exported exported_now exported_later number lines valid split looping.running
          (LogsRounds told moment left_since may_leave first disk its script)
          (logs_all told moment left_since may_leave counts_now only_now script store old first disk its log looping.running.rounds looping.logs)
          failed stops

      module _ (duties : List Duty) (did : RanRound store (number + 1) (crew_of script) old mid lines duties exported_now exported_later)
          (row : List Session) (may : MayHaveHandedOver mid row) (later : Option Log) (after : D) where
        -- the round that ran, told without its text
        abbrev its_done : RoundDone script store old mid lines exported_now exported_later
        its_done = record { calls = did.calls; ran = did.ran; asked = did.asked; turned = did.turned; sent = did.sent }

        -- the round, with the rounds before it
        abbrev this : RoundRun
        this = round script store old mid asked before now exported exported_now exported_later number looping.running lines its_done

        -- the row has the script's sessions
        few_sessions : script.sessions ≤ length mid
        few_sessions = let size = looping.running.is.size in let same = did.ran.size in omega (arith, size, same)

        -- what is taken of the row is what the round adds
        adds_taken : AddsWhatIsTaken told moment left_since may_leave counts_now only_now script store old mid row first disk after log later looping.running.rounds this (few_tables script valid)
        adds_taken = adds script store old mid asked before now exported exported_now exported_later number looping.running lines its_done (front_runs script asked rest lines split valid) few_sessions

        -- and those of whom it is taken keep none of it
        none_taken_kept : KeepsNoneTaken told moment left_since may_leave counts_now only_now script store old mid row first disk after log later looping.running.rounds this (few_tables script valid)
        none_taken_kept = keeps_none script store old mid asked before now exported exported_now exported_later number looping.running lines its_done row

        -- where the round ended well, the log has it too
        logs_further : {T : Type 0} (done : T) → EndsRound told moment left_since may_leave script.sessions mid row log later disk after (Ok done)
            → LogStands told moment left_since may_leave script store row first after its later (looping.running.rounds ++ this ∷ [])
        logs_further done ends =
            log_goes_on told moment left_since may_leave counts_now only_now script store old mid row first disk after log later looping.running.rounds this (few_tables script valid)
            its done adds_taken none_taken_kept looping.logs ends

        -- a round that ended well, of which the lines were printed
        pub looping_goes_on : {T : Type 0} (done : T) (text : List ℕ) (printed : Option (List ℕ)) → IsWholeText duties text → Appends now printed text
            → EndsRound told moment left_since may_leave script.sessions mid row log later disk after (Ok done)
            → Looping told moment left_since may_leave script store row (asked ++ lines ∷ []) before printed exported exported_later (number + 1) first after its later
        looping_goes_on done text printed whole grown ends = record {
          running = running_goes_on script store old mid row asked before now exported exported_now exported_later number lines duties text looping.running did whole may printed grown;
          logs = logs_further done ends;
        }

        -- or of which a front was printed
        pub looping_cut : {T : Type 0} (done : T) (text : List ℕ) (printed : Option (List ℕ)) → IsWholeText duties text → AppendsFront now printed text
            → EndsRound told moment left_since may_leave script.sessions mid row log later disk after (Ok done)
            → GoesCutOff (RunsIn script store row exported exported_later (LogsRounds told moment left_since may_leave first after its script)) script before printed
        looping_cut done text printed whole front ends =
            running_is_cut_off script store old mid row asked before now exported exported_now exported_later number lines duties text looping.running did whole may
            (LogsRounds told moment left_since may_leave first after its script) rest printed valid split
            (subst (LogsRounds told moment left_since may_leave first after its script (looping.running.rounds ++ this ∷ [])) (length_push looping.running.rounds this)
            (logs_all told moment left_since may_leave counts_now only_now script store row first after its later (looping.running.rounds ++ this ∷ [])
            (logs_further done ends)))
            front

        -- a round that did not end well
        pub looping_unended : (T : Type 0) (failed : RunFault) → EndsRound told moment left_since may_leave script.sessions mid row log later disk after (failed_as T failed)
            → GoesPart (RunsIn script store row exported exported_later (LogsRounds told moment left_since may_leave first after its script)) script failed before now
        looping_unended T failed ends = by failed ends (log_stops told moment left_since may_leave counts_now only_now script store old mid row first disk after log later
            looping.running.rounds this (few_tables script valid) T its failed adds_taken looping.logs ends)
          where
            by : (failed : RunFault) → EndsRound told moment left_since may_leave script.sessions mid row log later disk after (failed_as T failed)
                → LogsRounds told moment left_since may_leave first after its script (added_by (is_added_at failed) looping.running.rounds this) (length looping.running.rounds)
                → GoesPart (RunsIn script store row exported exported_later (LogsRounds told moment left_since may_leave first after its script)) script failed before now
            by fault.Out ends logs = absurd ((ends_inside told moment left_since may_leave counts_now only_now script store old mid row first disk after log later
                looping.running.rounds this (few_tables script valid) T its looping.logs).0 ends)
            by fault.Export ends logs = absurd ((ends_inside told moment left_since may_leave counts_now only_now script store old mid row first disk after log later
                looping.running.rounds this (few_tables script valid) T its looping.logs).1 ends)
            by fault.Memory ends logs = inr (running_unshown script store old mid asked rest before now exported exported_now exported_later number lines valid split looping.running
                its_done row may (LogsRounds told moment left_since may_leave first after its script) false logs)
            by fault.Log ends logs = running_unadded script store old mid asked rest before now exported exported_now exported_later number lines valid split looping.running
                its_done row may (LogsRounds told moment left_since may_leave first after its script) logs
                (round_unadded told moment left_since may_leave counts_now only_now script store old mid row first disk after log later
                looping.running.rounds this (few_tables script valid) T its adds_taken looping.logs ends)
            by fault.GroupTooLong ends logs = running_too_long script store old mid asked rest before now exported exported_now exported_later number lines valid split looping.running
                its_done row may (LogsRounds told moment left_since may_leave first after its script) logs
                (round_too_long told moment left_since may_leave counts_now only_now script store old mid row first disk after log later
                looping.running.rounds this (few_tables script valid) T its adds_taken looping.logs ends)

        -- without a log
        pub looping_unlogged : (T U : Type 0) (failed : RunFault) → its ≡ None → EndsRound told moment left_since may_leave script.sessions mid row log later disk after (failed_as T failed)
            → IsUnlogged first after (failed_as U failed)
        looping_unlogged T U failed none ends = unlogged_ends told moment left_since may_leave counts_now only_now script store old mid row first disk after log later
            looping.running.rounds this (few_tables script valid) T U its failed none looping.logs ends
