-- What the disk of a run's log has of its rounds, round behind round.
use Rattle.std.proofs.Common.{◌≡◌, inl, inr, ⊎_elim, ℕ, ◌<◌, ◌≤◌, ◌^◌, Bool, true, false, List, [], ◌∷◌, ◌++◌, length, take, Option, None, Some, is_some, Result, Ok, Err, refl, sym, ap, ◌∙◌, subst, append-nil, arith}
use Rattle.std.specs.Prelude.{◌≢◌, All, IfSome}
use Rattle.std.proofs.lemmas.List.{length_push}
use Rattle.cell_model.specs.declared.table.TableDecl.{TableDecl}
use Rattle.commit_log.specs.Commits.{GivesOneOf, StandsOf}
use Rattle.commit_log.specs.declared.log.Log.{Log}
use Rattle.disk_ports.proofs.Moments.{goes_further, started}
use Rattle.disk_ports.specs.Crashes.{LeavesOnly}
use Rattle.isolation_spec.specs.Commits.{AreCommitsOf}
use Rattle.isolation_spec.specs.Contents.{History}
use Rattle.log_spec.specs.LogText.{payload_text}
use Rattle.log_spec.specs.Reading.{Gives, IsLogOf}
use Rattle.workload_spec.specs.declared.script.Script.{Script}
use Rattle.run_spec.specs.Commits.{history_behind, write_sets}
use Rattle.run_spec.specs.declared.commit.Commit.{Commit}
use Rattle.run_spec.specs.Histories.{history_at}
use Rattle.run_spec.specs.Ran.{RoundRun}
use Rattle.run_laws.proofs.Recovery.Laws.{appends_leave, rounds_go_on}
use Rattle.run_laws.specs.Commits.Rounds.{GoesOnBy}
use Rattle.run_laws.specs.Recovery.Leaves.{LeavesRounds}
use Rattle.shared_store.specs.Building.{IsNewRow, StartsKeeping}
use Rattle.shared_store.specs.Store.{StoreView}
use Rattle.shared_store.specs.declared.session.Session.{Session}
use Rattle.store_rounds.specs.Adding.{Added, EndsRound, LeavesWithOrWithout, MayBeAdded}
use Rattle.store_rounds.specs.Grouped.{AreByNumber, HandedOver, kept_in}
use Rattle.store_rounds.specs.Logging.{AddsLast, ComesThrough, FitsRecord, IsTooLong, LogsRounds}
use Rattle.store_rounds.specs.Workloads.{IsUnlogged, added_by}
use Rattle.store_rounds.specs.declared.fault.RunFault.{RunFault}
use Rattle.store_rounds.specs.declared.fault.RunFault.TheVariants as fault
use Rattle.store_rounds.proofs.Grouping.{RowKeeps, made_by, row_begins}

-- a fault, of whatever was to be made
abbrev pub failed_as : (T : Type 0) → RunFault → Result T RunFault
failed_as T failed = Err failed

-- whether the commits of a round that failed so may be in the log
abbrev pub is_added_at : RunFault → Bool
is_added_at fault.Out = false
is_added_at fault.Export = false
is_added_at fault.Memory = false
is_added_at fault.Log = true
is_added_at fault.GroupTooLong = false

-- ---- a round's commits

-- The group is what a round behind these adds to the history.
pub record Adds (script : Script) (rounds : List RoundRun) (round : RoundRun) (group : History) : Type 0 where
  pub sorted : List Commit
  pub sets : group ≡ write_sets sorted
  pub by : GoesOnBy script (rounds ++ round ∷ []) (length rounds) sorted

-- As many of the first rounds as there were are those that there were.
take_front : (rounds more : List RoundRun) → take (length rounds) (rounds ++ more) ≡ take (length rounds) rounds
take_front [] [] = refl
take_front [] (r ∷ more) = refl
take_front (r ∷ rounds) more = ap (λ (rs : List RoundRun). r ∷ rs) (take_front rounds more)

module _ (script : Script) (rounds : List RoundRun) (round : RoundRun) where
  -- The history in front of a round is that behind the rounds before it.
  front_is : history_at script (rounds ++ round ∷ []) (length rounds) ≡ history_at script rounds (length rounds)
  front_is = ap (λ (rs : List RoundRun). history_behind script.begun (made_by rs)) (take_front rounds (round ∷ []))

  module _ (group : History) (adds : Adds script rounds round group) where
    -- Behind the round the group stands behind it.
    history_is : history_at script rounds (length rounds) ++ group ≡ history_at script (rounds ++ round ∷ []) (length (rounds ++ round ∷ []))
    history_is =
        ap (λ (g : History). history_at script rounds (length rounds) ++ g) adds.sets
        ∙ ap (λ (h : History). h ++ write_sets adds.sorted) (sym front_is)
        ∙ sym adds.by.history
        ∙ ap (history_at script (rounds ++ round ∷ [])) (sym (length_push rounds round))

    -- A log with the group or without leaves some of the rounds.
    one_leaves : (c : List ℕ) → GivesOneOf script.tables (history_at script rounds (length rounds)) group c → LeavesRounds script (rounds ++ round ∷ []) (length rounds) c
    one_leaves c gives =
        let size = length_push rounds round in
        (appends_leave script (rounds ++ round ∷ []) (length rounds) adds.sorted (omega (arith, size)) adds.by).during c
        (subst (λ (h : History). GivesOneOf script.tables h (write_sets adds.sorted) c) (sym front_is)
        (subst (λ (g : History). GivesOneOf script.tables (history_at script rounds (length rounds)) g c) adds.sets gives))

    -- It may be added to a log of the script's tables, of which there are few.
    pub may_add : length script.tables ≤ 2 ^ 8 → MayBeAdded script.tables group
    may_add few = record { few = few; each = subst (AreCommitsOf script.tables) (sym adds.sets) adds.by.tables }

    -- It is what the last round adds to the history.
    adds_last : AddsLast script rounds round group
    adds_last = adds.by.history ∙ ap (λ (g : History). history_at script (rounds ++ round ∷ []) (length rounds) ++ g) (sym adds.sets)

    -- What it has of bytes that do not fit is too long.
    pub too_long : 2 ^ 32 ≤ length (payload_text group) → IsTooLong script rounds round
    too_long long = record { sets = group; adds = adds_last; long = long }

    -- What it has of some commits whose bytes fit is taken by a record.
    pub fits_record : group ≢ [] → length (payload_text group) < 2 ^ 32 → FitsRecord script rounds round
    fits_record some short = record { sets = group; adds = adds_last; some = some; short = short }

-- ---- what leaves rounds

-- All rounds are left where their history is.
all_left : (script : Script) (rounds : List RoundRun) (c : List ℕ) → Gives script.tables c (history_at script rounds (length rounds)) → LeavesRounds script rounds (length rounds) c
all_left script rounds c gives = record { count = length rounds; enough = omega arith; within = omega arith; gives = gives }

-- Some are left where at least so many are.
some_left : (script : Script) (rounds : List RoundRun) (least : ℕ) (c : List ℕ) → LeavesRounds script rounds least c → LeavesRounds script rounds 0 c
some_left script rounds least c left = record { count = left.count; enough = omega arith; within = left.within; gives = left.gives }

-- ---- what is kept of it from round to round

module _ {D : Type 0} (told : D → Option (List ℕ)) (moment : D → ℕ) (left_since : D → ℕ → List ℕ → Type 0) (may_leave : D → List ℕ → Type 0) where
  -- The log stands with the rounds, and since the first of them a crash left some of them.
  pub record Stood (script : Script) (first disk : D) (rounds : List RoundRun) (log : Log) : Type 0 where
    pub stands : StandsOf script.tables (told disk) (may_leave disk) (history_at script rounds (length rounds)) log
    pub any_moment : LeavesOnly moment left_since first disk (LeavesRounds script rounds 0)

  -- Without a log the disk is as it was.
  pub record LogAlone (first disk : D) (log : Option Log) : Type 0 where
    pub same : disk ≡ first
    pub none : log ≡ None

  -- With one that works, the sessions keep none of the commits of the rounds, and it stands with them.
  pub record LogGoesOn (script : Script) (store : StoreView) (row : List Session) (first disk : D) (its : Log) (log : Option Log) (rounds : List RoundRun) : Type 0 where
    pub now : Log
    pub is : log ≡ Some now
    pub works : now.payloads.failed ≡ false
    pub keeps : RowKeeps script.sessions store row rounds
    pub stood : StandsOf script.tables (told first) (may_leave first) script.begun its → Stood script first disk rounds now

  abbrev pub LogStands : Script → StoreView → List Session → D → D → Option Log → Option Log → List RoundRun → Type 0
  LogStands script store row first disk None log rounds = LogAlone first disk log
  LogStands script store row first disk (Some its) log rounds = LogGoesOn script store row first disk its log rounds

module _
    {D : Type 0} (told : D → Option (List ℕ)) (moment : D → ℕ) (left_since : D → ℕ → List ℕ → Type 0) (may_leave : D → List ℕ → Type 0)
    (counts_now : (disk : D) (t : ℕ) (c : List ℕ) → t ≤ moment disk → may_leave disk c → left_since disk t c)
    (only_now : (disk : D) (c : List ℕ) → left_since disk (moment disk) c → may_leave disk c)
  where
    -- A crash leaves the log that stands there.
    gives_there : (tables : List TableDecl) (disk : D) (commits : History) (log : Log) → StandsOf tables (told disk) (may_leave disk) commits log
        → (c : List ℕ) → may_leave disk c → Gives tables c commits
    gives_there tables disk commits log stands c may = (log.payloads.gate, subst (IsLogOf tables commits log.payloads.gate) (sym (stands.only c may)) stands.is_log)

    -- So it does at any moment of a call in which nothing was done.
    pub nothing_done : (tables : List TableDecl) (disk : D) (commits : History) (log : Log) (P : List ℕ → Type 0) → StandsOf tables (told disk) (may_leave disk) commits log
        → ((c : List ℕ) → Gives tables c commits → P c) → LeavesOnly moment left_since disk disk P
    nothing_done tables disk commits log P stands leaves =
        started moment left_since disk P (λ c left. leaves c (gives_there tables disk commits log stands c (only_now disk c left)))

    -- ---- a log that stands with the rounds

    -- before the first round
    stood_first : (script : Script) (disk : D) (log : Log) → StandsOf script.tables (told disk) (may_leave disk) script.begun log → Stood told moment left_since may_leave script disk disk [] log
    stood_first script disk log stands =
        let stood : StandsOf script.tables (told disk) (may_leave disk) (history_at script [] 0) log =
        subst (λ (h : History). StandsOf script.tables (told disk) (may_leave disk) h log) (sym (append-nil script.begun)) stands in
        record {
          stands = stood;
          any_moment = nothing_done script.tables disk (history_at script [] 0) log (LeavesRounds script [] 0) stood
              (λ c gives. some_left script [] 0 c (all_left script [] c gives));
        }

    -- Then the disk came through them all.
    came : (script : Script) (first disk : D) (rounds : List RoundRun) (log : Log) → Stood told moment left_since may_leave script first disk rounds log
        → ComesThrough moment left_since may_leave first disk script rounds (length rounds)
    came script first disk rounds log stood = record {
      any_moment = stood.any_moment;
      kept = λ c may. all_left script rounds c (gives_there script.tables disk (history_at script rounds (length rounds)) log stood.stands c may);
    }

    -- A run of which no round ran yet came through.
    pub begins : (script : Script) (disk : D) (log : Log) → StandsOf script.tables (told disk) (may_leave disk) script.begun log
        → ComesThrough moment left_since may_leave disk disk script [] 0
    begins script disk log stands = came script disk disk [] log (stood_first script disk log stands)

    module _ (script : Script) (first old new : D) (rounds : List RoundRun) (round : RoundRun) (group : History) (log : Log)
        (stood : Stood told moment left_since may_leave script first old rounds log) (adds : Adds script rounds round group) (few : length script.tables ≤ 2 ^ 8) where
      -- A crash at any moment up to the end of the adding leaves some of the rounds.
      leaves_some : LeavesOnly moment left_since old new (GivesOneOf script.tables (history_at script rounds (length rounds)) group)
          → LeavesOnly moment left_since first new (LeavesRounds script (rounds ++ round ∷ []) 0)
      leaves_some any = goes_further moment left_since first old new
          (LeavesRounds script rounds 0) (GivesOneOf script.tables (history_at script rounds (length rounds)) group) (LeavesRounds script (rounds ++ round ∷ []) 0)
          stood.any_moment any
          (λ c left. rounds_go_on script rounds (round ∷ []) 0 c left)
          (λ c gives. some_left script (rounds ++ round ∷ []) (length rounds) c (one_leaves script rounds round group adds c gives))

      -- Where its commits were added the log stands with the round too.
      stood_further : (later : Log) → Added told moment left_since may_leave group log later old new → Stood told moment left_since may_leave script first new (rounds ++ round ∷ []) later
      stood_further later added = record {
        stands = subst (λ (h : History). StandsOf script.tables (told new) (may_leave new) h later) (history_is script rounds round group adds)
            (added.stands script.tables (history_at script rounds (length rounds)) stood.stands (may_add script rounds round group adds few));
        any_moment = leaves_some (added.any_moment script.tables (history_at script rounds (length rounds)) stood.stands (may_add script rounds round group adds few));
      }

      -- Where the disk failed it came through, with the round or without.
      came_failed : LeavesWithOrWithout told moment left_since may_leave group log old new
          → ComesThrough moment left_since may_leave first new script (rounds ++ round ∷ []) (length rounds)
      came_failed leaves =
          let any = leaves script.tables (history_at script rounds (length rounds)) stood.stands (may_add script rounds round group adds few) in
          record {
            any_moment = leaves_some any;
            kept = λ c may. one_leaves script rounds round group adds c (any.each c (counts_now new (moment old) c any.later may));
          }

    -- ---- a run with a log or without

    -- before the first round
    pub log_begins : (script : Script) (store : StoreView) (count : ℕ) (row : List Session) (disk : D) (log : Option Log)
        → script.sessions ≤ count → IsNewRow store count row → All (StartsKeeping (is_some log)) row → IfSome log (λ its. its.payloads.failed ≡ false)
        → LogStands told moment left_since may_leave script store row disk disk log log []
    log_begins script store count row disk None few new starts works = record { same = refl; none = refl }
    log_begins script store count row disk (Some its) few new starts works = record {
      now = its;
      is = refl;
      works = works;
      keeps = row_begins script.sessions count store row few new starts;
      stood = stood_first script disk its;
    }

    -- The log that a run goes on with works.
    pub log_works : (script : Script) (store : StoreView) (row : List Session) (first disk : D) (its log : Option Log) (rounds : List RoundRun)
        → LogStands told moment left_since may_leave script store row first disk its log rounds → IfSome log (λ now. now.payloads.failed ≡ false)
    log_works script store row first disk None log rounds alone = subst (λ (l : Option Log). IfSome l (λ now. now.payloads.failed ≡ false)) (sym alone.none) tt
    log_works script store row first disk (Some its) log rounds goes = subst (λ (l : Option Log). IfSome l (λ now. now.payloads.failed ≡ false)) (sym goes.is) goes.works

    -- Behind some rounds it has them all.
    pub logs_all : (script : Script) (store : StoreView) (row : List Session) (first disk : D) (its log : Option Log) (rounds : List RoundRun)
        → LogStands told moment left_since may_leave script store row first disk its log rounds → LogsRounds told moment left_since may_leave first disk its script rounds (length rounds)
    logs_all script store row first disk None log rounds alone = tt
    logs_all script store row first disk (Some its) log rounds goes = λ stands. came script first disk rounds goes.now (goes.stood stands)

    module _ (script : Script) (store : StoreView) (old mid new : List Session) (first disk now : D) (log later : Option Log) (rounds : List RoundRun) (round : RoundRun)
        (few : length script.tables ≤ 2 ^ 8) where
      -- what is taken behind a round is what it adds to the history
      abbrev pub AddsWhatIsTaken : Type 0
      AddsWhatIsTaken = RowKeeps script.sessions store old rounds → (group : History) → AreByNumber (kept_in (take script.sessions mid)) group → Adds script rounds round group

      -- those of whom it was taken keep none of it
      abbrev pub KeepsNoneTaken : Type 0
      KeepsNoneTaken = RowKeeps script.sessions store old rounds → HandedOver script.sessions mid new → RowKeeps script.sessions store new (rounds ++ round ∷ [])

      -- A round that ended well stands in the log.
      pub log_goes_on : {T : Type 0} (its : Option Log) (done : T) → AddsWhatIsTaken → KeepsNoneTaken → LogStands told moment left_since may_leave script store old first disk its log rounds
          → EndsRound told moment left_since may_leave script.sessions mid new log later disk now (Ok done)
          → LogStands told moment left_since may_leave script store new first now its later (rounds ++ round ∷ [])
      log_goes_on {T} None done adds keeps alone ends =
          let left = subst (λ (l : Option Log). EndsRound told moment left_since may_leave script.sessions mid new l later disk now (Ok done)) alone.none ends in
          record { same = left.disk ∙ alone.same; none = left.none }
      log_goes_on {T} (Some its) done adds keeps goes ends =
          let added = subst (λ (l : Option Log). EndsRound told moment left_since may_leave script.sessions mid new l later disk now (Ok done)) goes.is ends in
          record {
            now = added.its;
            is = added.is;
            works = added.added.works;
            keeps = keeps goes.keeps added.took.taken;
            stood = λ stands. stood_further script first disk now rounds round added.group goes.now (goes.stood stands) (adds goes.keeps added.group added.took.sets) few added.its added.added;
          }

      -- Of one that did not, the disk has the rounds before it.
      pub log_stops : (T : Type 0) (its : Option Log) (failed : RunFault) → AddsWhatIsTaken → LogStands told moment left_since may_leave script store old first disk its log rounds
          → EndsRound told moment left_since may_leave script.sessions mid new log later disk now (failed_as T failed)
          → LogsRounds told moment left_since may_leave first now its script (added_by (is_added_at failed) rounds round) (length rounds)
      log_stops T None failed adds alone ends = tt
      log_stops T (Some its) failed adds goes ends =
          by failed (subst (λ (l : Option Log). EndsRound told moment left_since may_leave script.sessions mid new l later disk now (failed_as T failed)) goes.is ends)
        where
          same_disk : now ≡ disk → LogsRounds told moment left_since may_leave first now (Some its) script rounds (length rounds)
          same_disk same = subst (λ (d : D). LogsRounds told moment left_since may_leave first d (Some its) script rounds (length rounds)) (sym same)
              (logs_all script store old first disk (Some its) log rounds goes)

          by : (failed : RunFault) → EndsRound told moment left_since may_leave script.sessions mid new (Some goes.now) later disk now (failed_as T failed)
              → LogsRounds told moment left_since may_leave first now (Some its) script (added_by (is_added_at failed) rounds round) (length rounds)
          by fault.Out ends = absurd ends
          by fault.Export ends = absurd ends
          by fault.Memory same = same_disk same
          by fault.Log ends = λ stands.
              came_failed script first disk now rounds round ends.group goes.now (goes.stood stands) (adds goes.keeps ends.group ends.sets) few ends.failed.any_moment
          by fault.GroupTooLong ends = same_disk ends.same

      -- One whose commits do not fit adds them to the history.
      pub round_too_long : (T : Type 0) (its : Option Log) → AddsWhatIsTaken → LogStands told moment left_since may_leave script store old first disk its log rounds
          → EndsRound told moment left_since may_leave script.sessions mid new log later disk now (failed_as T fault.GroupTooLong)
          → IsTooLong script rounds round
      round_too_long T None adds alone ends =
          absurd (subst (λ (l : Option Log). EndsRound told moment left_since may_leave script.sessions mid new l later disk now (failed_as T fault.GroupTooLong)) alone.none ends)
      round_too_long T (Some its) adds goes ends =
          let took = subst (λ (l : Option Log). EndsRound told moment left_since may_leave script.sessions mid new l later disk now (failed_as T fault.GroupTooLong)) goes.is ends in
          too_long script rounds round took.group (adds goes.keeps took.group took.sets) took.long

      -- One whose commits the disk failed to take adds them to the history.
      pub round_unadded : (T : Type 0) (its : Option Log) → AddsWhatIsTaken → LogStands told moment left_since may_leave script store old first disk its log rounds
          → EndsRound told moment left_since may_leave script.sessions mid new log later disk now (failed_as T fault.Log)
          → FitsRecord script rounds round
      round_unadded T None adds alone ends =
          absurd (subst (λ (l : Option Log). EndsRound told moment left_since may_leave script.sessions mid new l later disk now (failed_as T fault.Log)) alone.none ends)
      round_unadded T (Some its) adds goes ends =
          let took = subst (λ (l : Option Log). EndsRound told moment left_since may_leave script.sessions mid new l later disk now (failed_as T fault.Log)) goes.is ends in
          fits_record script rounds round took.group (adds goes.keeps took.group took.sets) took.failed.some took.short

      -- A round that ended does not tell of the output or the outlet.
      pub ends_inside : (T : Type 0) (its : Option Log) → LogStands told moment left_since may_leave script store old first disk its log rounds
          → (EndsRound told moment left_since may_leave script.sessions mid new log later disk now (failed_as T fault.Out) → ⊥)
          × (EndsRound told moment left_since may_leave script.sessions mid new log later disk now (failed_as T fault.Export) → ⊥)
      ends_inside T None alone =
          let none : (failed : RunFault) → EndsRound told moment left_since may_leave script.sessions mid new log later disk now (failed_as T failed)
          → EndsRound told moment left_since may_leave script.sessions mid new None later disk now (failed_as T failed) =
          λ failed ends. subst (λ (l : Option Log). EndsRound told moment left_since may_leave script.sessions mid new l later disk now (failed_as T failed)) alone.none ends in
          (λ ends. none fault.Out ends, λ ends. none fault.Export ends)
      ends_inside T (Some its) goes =
          let some : (failed : RunFault) → EndsRound told moment left_since may_leave script.sessions mid new log later disk now (failed_as T failed)
          → EndsRound told moment left_since may_leave script.sessions mid new (Some goes.now) later disk now (failed_as T failed) =
          λ failed ends. subst (λ (l : Option Log). EndsRound told moment left_since may_leave script.sessions mid new l later disk now (failed_as T failed)) goes.is ends in
          (λ ends. some fault.Out ends, λ ends. some fault.Export ends)

      -- Without a log it tells of none, and the disk is as it was.
      pub unlogged_ends : (T U : Type 0) (its : Option Log) (failed : RunFault) → its ≡ None → LogStands told moment left_since may_leave script store old first disk its log rounds
          → EndsRound told moment left_since may_leave script.sessions mid new log later disk now (failed_as T failed)
          → IsUnlogged first now (failed_as U failed)
      unlogged_ends T U its failed none stands ends =
          let alone : LogAlone told moment left_since may_leave first disk log = subst (λ (l : Option Log). LogStands told moment left_since may_leave script store old first disk l log rounds) none stands in
          by failed alone.same (subst (λ (l : Option Log). EndsRound told moment left_since may_leave script.sessions mid new l later disk now (failed_as T failed)) alone.none ends)
        where
          by : (failed : RunFault) → disk ≡ first → EndsRound told moment left_since may_leave script.sessions mid new None later disk now (failed_as T failed) → IsUnlogged first now (failed_as U failed)
          by fault.Out same ends = absurd ends
          by fault.Export same ends = absurd ends
          by fault.Memory same ends = record { same = ends ∙ same; no_fault = λ e. memory_no_log e; fits = λ e. memory_fits e }
            where
              memory_no_log : failed_as U fault.Memory ≡ failed_as U fault.Log → ⊥
              memory_no_log e = cc

              memory_fits : failed_as U fault.Memory ≡ failed_as U fault.GroupTooLong → ⊥
              memory_fits e = cc
          by fault.Log same ends = absurd ends
          by fault.GroupTooLong same ends = absurd ends
