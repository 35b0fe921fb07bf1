-- How a run of the program ends: what each status says of what was read, printed and sent.
use Rattle.std.specs.Prelude.{◌≡◌, ◌≢◌, ◌<◌, ◌≤◌, ◌+◌, ◌^◌, ◌⊎◌, ℕ, Bool, true, false, length, List}
use Rattle.std.specs.Prelude.{[], ◌∷◌, ◌++◌, Option}
use Rattle.std.specs.Prelude.{None, Some, option_map, codes, decimal, Ok, Err, IsSome, is_some}
use Rattle.std.specs.Prelude.{if◌then◌else◌}
use Rattle.std.specs.Io.KnownBytes.{Appends, Consumes, IsAtEnd}
use Rattle.std.specs.Option.{ForSome}
use Rattle.byte_ports.specs.Calls.{AppendsFront, ConsumesAtLeast, Rose}
use Rattle.stream_spec.specs.Streams.{reading_of}
use Rattle.stream_spec.specs.declared.fault.StreamFault.{StreamFault}
use Rattle.stream_pieces.specs.Pieces.{IsOver}
use Rattle.stream_text.specs.Shown.{front_text, shown_text}
use Rattle.export_spec.specs.Sent.{SaysAllSent, has_export}
use Rattle.workload_spec.specs.declared.script.Line.{Line}
use Rattle.workload_spec.specs.declared.script.Script.{Script}
use Rattle.workload_spec.specs.Grammar.{Fault, checked_of, refused_text, script_of}
use Rattle.workload_spec.specs.Words.{line_feed}
use Rattle.outcome_spec.specs.Explained.{Explained, failing_line}
use Rattle.run_spec.specs.Occurrences.{Logged}
use Rattle.run_spec.specs.Ran.{IsRunnable, Ran, RoundRun, shape_of}
use Rattle.run_laws.specs.Recovery.Leaves.{BeginsWith, Survives}
use Rattle.run_laws.specs.Rounds.Fronts.{with_rounds}
use Rattle.store_rounds.specs.Logging.{OfLogged}
use Rattle.store_rounds.specs.Prepared.{IsFirstFull, begun_with}
use Rattle.store_rounds.specs.Workloads.{GoesCutOff, GoesStopped, GoesToExport, GoesTooLong}
use Rattle.store_rounds.specs.Workloads.{GoesUnadded, GoesWhole}
use Rattle.isolation_spec.specs.Commits.{AreCommitsOf}
use Rattle.isolation_spec.specs.Contents.{History}
use Rattle.cell_model.specs.declared.table.TableDecl.{TableDecl}
use Rattle.disk_ports.specs.Crashes.{LeavesJust}
use Rattle.log_spec.specs.Reading.{IsNoLog}
use Rattle.commit_log.specs.Readings.{OnlyReads, ReadsAs}
use Rattle.commit_log.specs.declared.reading.LogEnd.{LogEnd}
use Rattle.commit_log.specs.declared.reading.LogEnd.TheVariants as log_end
use Rattle.log_text.specs.Lines.{log_text}
use Rattle.bench_spec.specs.Counted.{counts_text}
use Rattle.bench_spec.specs.declared.counts.Counts.{Counts}
use Rattle.program.specs.Bench.{RanGenerated}
use Rattle.program.specs.Words.{Asked, ToRun, ToShow, ToCheck, ToBench, ToLog, ToHelp, ToVersion}
use Rattle.program.specs.Words.{help_text, usage_line, version_line}
use Rattle.program.specs.declared.status.Status.{Status}
use Rattle.program.specs.declared.status.Status.TheVariants as status

-- ---- what an export sends

-- An outlet grew by what the replies of this output say; by nothing where the workload has no
-- export.
pub record Sends (script : Script) (output : List ℕ) (before now : Option (List ℕ)) : Type 0 where
  pub sent : List ℕ
  pub grown : Appends before now sent
  pub says : SaysAllSent script output sent

-- ---- the outside

-- What is told of the outside at one moment: the bytes left to read, those written to the output
-- and to the outlet, and the names that the outlet was started with.
pub record Outside : Type 0 where
  pub left : Option (List ℕ)
  pub printed : Option (List ℕ)
  pub exported : Option (List ℕ)
  pub started : Option (List (List ℕ))

abbrev pub outside : Option (List ℕ) → Option (List ℕ) → Option (List ℕ) → Option (List (List ℕ))
    → Outside
outside left printed exported started = record {
  left = left;
  printed = printed;
  exported = exported;
  started = started;
}

-- nothing was written to the outlet, and it was not started
pub record LeavesOutlet (before now : Outside) : Type 0 where
  pub exported : now.exported ≡ before.exported
  pub started : now.started ≡ before.started

-- nothing was printed either
pub record IsSilent (before now : Outside) : Type 0 where
  pub printed : now.printed ≡ before.printed
  pub outlet : LeavesOutlet before now

-- the names with which an outlet was started, behind a start with this path if there was one
abbrev pub started_if : Bool → List ℕ → Option (List (List ℕ)) → Option (List (List ℕ))
started_if starts path names =
    if starts then option_map (λ before. before ++ path ∷ []) names else names

-- the names with which it was started, after a run with this path: once, where the workload has an
-- export
abbrev pub started_by : List ℕ → Script → Option (List (List ℕ)) → Option (List (List ℕ))
started_by path script names = started_if (has_export script) path names

-- The outlet after the workload `ran`, a front of the workload: started once, with the path, where
-- the workload has an export, and sent what the replies say. Without a path the export is dropped.
abbrev pub Delivers : Option (List ℕ) → Script → Script → List ℕ → Outside → Outside → Type 0
Delivers None script ran output before now = LeavesOutlet before now
Delivers (Some path) script ran output before now =
    (now.started ≡ started_by path script before.started)
    × Sends ran output before.exported now.exported

-- ---- the disk

-- What is told of the disk: the bytes of its file before, the names that it was started with before
-- and now, whether its calls only read, and whether these rounds of a workload, so many of which were
-- printed, survive on it.
pub record OfDisk : Type 1 where
  pub file : Option (List ℕ)
  pub before : Option (List (List ℕ))
  pub now : Option (List (List ℕ))
  pub only_read : Type 0
  pub survives : Script → OfLogged

-- A disk that tells no bytes tells nothing of the rounds.
abbrev pub of_disk : {D : Type 0} → (D → Option (List ℕ)) → (D → Option (List (List ℕ)))
    → (D → List ℕ → Type 0) → (D → ℕ) → (D → ℕ → List ℕ → Type 0) → D → D → OfDisk
of_disk told started may_leave moment left_since old new = record {
  file = told old;
  before = started old;
  now = started new;
  only_read = OnlyReads told may_leave moment left_since old new;
  survives = λ script rounds printed. IsSome (told old)
      → Survives told moment left_since may_leave old new script rounds printed;
}

-- the disk was not started
abbrev pub IsUnstarted : OfDisk → Type 0
IsUnstarted disk = disk.now ≡ disk.before

-- the disk was started once, with this name
abbrev pub IsStartedWith : List ℕ → OfDisk → Type 0
IsStartedWith name disk = disk.now ≡ option_map (λ names. names ++ name ∷ []) disk.before

-- the disk was started with the path, or was not
abbrev pub MayBeStarted : List ℕ → OfDisk → Type 0
MayBeStarted path disk = IsUnstarted disk ⊎ IsStartedWith path disk

-- the disk was not started, and is as it was
pub record IsLeft (disk : OfDisk) : Type 0 where
  pub unstarted : IsUnstarted disk
  pub only_read : disk.only_read

-- A log is kept, and the disk was started with its path.
abbrev pub IsStartedFor : Option (List ℕ) → OfDisk → Type 0
IsStartedFor None disk = ⊥
IsStartedFor (Some path) disk = IsStartedWith path disk

-- A log is kept, and the disk was started with its path, or was not started.
abbrev pub MayBeStartedFor : Option (List ℕ) → OfDisk → Type 0
MayBeStartedFor None disk = ⊥
MayBeStartedFor (Some path) disk = MayBeStarted path disk

-- The commits that a run over these tables begins with: none without a log; with one the disk was
-- started with its path, and they are those that its file has.
abbrev pub Begins : Option (List ℕ) → OfDisk → List TableDecl → History → Type 0
Begins None disk tables first = first ≡ []
Begins (Some path) disk tables first = IsStartedWith path disk
    × BeginsWith tables disk.file first

-- the line that tells that a log leaves a table more rows than it takes
abbrev pub log_too_large : List ℕ
log_too_large = codes "log too large" ++ line_feed ∷ []

-- What is told of a run's log: its rounds survive on the disk.
abbrev pub LogKeeps : Option (List ℕ) → OfDisk → Script → OfLogged
LogKeeps None disk script rounds printed = Unit {0}
LogKeeps (Some path) disk script rounds printed = disk.survives script rounds printed

-- ---- the input

-- The bytes are read as this workload.
abbrev pub IsWorkload : List ℕ → Script → Type 0
IsWorkload bytes script = script_of bytes ≡ Ok script

-- The bytes were read, to the end of the input, and are fewer than 2^32.
pub record IsRead (bytes : List ℕ) (before now : Outside) : Type 0 where
  pub read : Consumes before.left now.left bytes
  pub ended : IsAtEnd now.left
  pub short : length bytes < 2 ^ 32

-- The input was read, and is this workload.
pub record Reads (script : Script) (before now : Outside) : Type 0 where
  pub bytes : List ℕ
  pub input : IsRead bytes before now
  pub workload : IsWorkload bytes script

-- ---- the ends

-- A text that was due is printed whole (`Appends`), or only a front of it where the output failed
-- (`AppendsFront`).

-- A text of the program's own is printed: nothing is read or sent.
pub record IsTold
    (Prints : Option (List ℕ) → Option (List ℕ) → List ℕ → Type 0) (text : List ℕ)
    (before now : Outside)
    : Type 0 where
  pub left : now.left ≡ before.left
  pub printed : Prints before.printed now.printed text
  pub outlet : LeavesOutlet before now

-- The input is no workload, and the line of its first fault is printed.
pub record IsRefused
    (Prints : Option (List ℕ) → Option (List ℕ) → List ℕ → Type 0) (before now : Outside)
    : Type 0 where
  pub bytes : List ℕ
  pub input : IsRead bytes before now
  pub fault : Fault
  pub first : script_of bytes ≡ Err fault
  pub printed : Prints before.printed now.printed (refused_text fault)
  pub outlet : LeavesOutlet before now

-- Rounds of these lines of the workload ran with some log of events, as these rounds, and had this
-- text, which snapshot isolation explains; so many of them were printed, were it in part. The outlet
-- has what the text's lines say, and of the run's log of commits this is told, of the first rounds
-- alone whose commits may be there.
pub record RanRounds
    (path : Option (List ℕ)) (Logs : OfLogged) (script : Script) (before now : Outside)
    (asked : List (List Line)) (rounds added : List RoundRun) (printed : ℕ) (text : List ℕ)
    : Type 0 where
  pub log : List Logged
  pub ran : Ran (with_rounds asked script) log text
  pub rounds_are : ran.rounds ≡ rounds
  pub explained : Explained (with_rounds asked script) text
  pub outlet : Delivers path script (with_rounds asked script) text before now
  pub logs : Logs added printed

-- All rounds ran, and their text was printed.
abbrev pub IsRun : Option (List ℕ) → OfLogged → Script → Outside → Outside → Type 0
IsRun path Logs script before now =
    GoesWhole (RanRounds path Logs script before now) script before.printed now.printed

-- Some first rounds ran, and the output failed at the text of the last of them: that of the rounds
-- before it was printed, and of its own only a front.
abbrev pub IsCutOff : Option (List ℕ) → OfLogged → Script → Outside → Outside → Type 0
IsCutOff path Logs script before now =
    GoesCutOff (RanRounds path Logs script before now) script before.printed now.printed

-- The run stopped for want of memory: where a round was to begin, or behind a round that ran whole
-- and whose text was not shown. The text of the rounds before it was printed.
abbrev pub IsStopped : Option (List ℕ) → OfLogged → Script → Outside → Outside → Type 0
IsStopped path Logs script before now =
    GoesStopped (RanRounds path Logs script before now) script before.printed now.printed

-- The run stopped behind a round in which the outlet failed at an export, which counts as answered
-- `memory`: a front of its stream was sent, its session stopped there, and the others ended their
-- lines. The text of the round was not shown; that of the rounds before it was printed.
abbrev pub StopsAtExport : Option (List ℕ) → OfLogged → Script → Outside → Outside → Type 0
StopsAtExport path Logs script before now =
    GoesToExport (RanRounds path Logs script before now) script before.printed now.printed

-- The workload has an export and the outlet failed: at its start, and then no round ran, or at the
-- export.
pub record FailsExport
    (path : Option (List ℕ)) (Logs : OfLogged) (script : Script) (before now : Outside)
    : Type 0 where
  pub named : IsSome path
  pub asked : has_export script ≡ true
  pub failed : (IsSilent before now × Logs [] 0) ⊎ StopsAtExport path Logs script before now

-- A log is kept, and its disk failed behind a round that ran whole, whose text was not shown; that
-- of the rounds before it was printed.
pub record FailsAppend
    (path : Option (List ℕ)) (keeps : Bool) (Logs : OfLogged) (script : Script)
    (before now : Outside)
    : Type 0 where
  pub kept : keeps ≡ true
  pub failed : GoesUnadded (RanRounds path Logs script before now) script before.printed now.printed

-- A log is kept, and the commits of a round that ran whole are too long for a record of it: the text
-- of the round was not shown; that of the rounds before it was printed.
pub record IsGroupTooLong
    (path : Option (List ℕ)) (keeps : Bool) (Logs : OfLogged) (script : Script)
    (before now : Outside)
    : Type 0 where
  pub kept : keeps ≡ true
  pub stopped : GoesTooLong (RanRounds path Logs script before now) script before.printed now.printed

-- How the rounds of a workload end, with this path for its export, and with a log, of which this is
-- told, or without one.
abbrev pub RoundsEnd : Option (List ℕ) → Bool → OfLogged → Script → Status → Outside → Outside
    → Type 0
RoundsEnd path keeps Logs script status.Done before now = IsRun path Logs script before now
RoundsEnd path keeps Logs script status.Usage before now = ⊥
RoundsEnd path keeps Logs script status.Refused before now = ⊥
RoundsEnd path keeps Logs script status.ReadFault before now = ⊥
RoundsEnd path keeps Logs script status.OutFault before now = IsCutOff path Logs script before now
RoundsEnd path keeps Logs script status.ExportFault before now =
    FailsExport path Logs script before now
RoundsEnd path keeps Logs script status.Memory before now = IsStopped path Logs script before now
RoundsEnd path keeps Logs script status.NotAStream before now = ⊥
RoundsEnd path keeps Logs script status.TooLong before now = ⊥
RoundsEnd path keeps Logs script status.LogFault before now =
    FailsAppend path keeps Logs script before now
RoundsEnd path keeps Logs script status.NotALog before now = ⊥
RoundsEnd path keeps Logs script status.LogFull before now = ⊥
RoundsEnd path keeps Logs script status.GroupTooLong before now =
    IsGroupTooLong path keeps Logs script before now

-- The store was built over the commits that the run begins with, which leave no table more rows than
-- it takes, and the rounds ended so.
pub record IsBuilt
    (path log : Option (List ℕ)) (disk : OfDisk) (script : Script) (ended : Status)
    (before now : Outside)
    : Type 0 where
  pub first : History
  pub begins : Begins log disk script.tables first
  pub runnable : IsRunnable (begun_with first script)
  pub ends : RoundsEnd path (is_some log) (LogKeeps log disk (begun_with first script))
      (begun_with first script) ended before now

-- There was no memory for the store, behind the opening of its log if one is kept: no round ran,
-- nothing was printed, and the outlet was not started.
pub record IsUnbuilt
    (log : Option (List ℕ)) (disk : OfDisk) (script : Script) (before now : Outside)
    : Type 0 where
  pub first : History
  pub begins : Begins log disk script.tables first
  pub silent : IsSilent before now
  pub logs : LogKeeps log disk (begun_with first script) [] 0

-- The log's commits leave a table more rows than it takes, and the line that tells so is printed.
-- Nothing ran, and the file is as it was; a crash leaves just its commits.
pub record IsLogFull
    (Prints : Option (List ℕ) → Option (List ℕ) → List ℕ → Type 0) (log : Option (List ℕ))
    (disk : OfDisk) (script : Script) (before now : Outside)
    : Type 0 where
  pub kept : is_some log ≡ true
  pub first : History
  pub begins : Begins log disk script.tables first
  pub table : ℕ
  pub full : IsFirstFull (shape_of (begun_with first script)) table
  pub only_read : disk.only_read
  pub logs : LogKeeps log disk (begun_with first script) [] 0
  pub printed : Prints before.printed now.printed log_too_large
  pub outlet : LeavesOutlet before now

-- The log's file is none of the workload's tables, and the line of the place where its bytes leave
-- the form is printed. Nothing ran, and the file is as it was.
pub record HasNoLog
    (Prints : Option (List ℕ) → Option (List ℕ) → List ℕ → Type 0) (log : Option (List ℕ))
    (disk : OfDisk) (script : Script) (before now : Outside)
    : Type 0 where
  pub started : IsStartedFor log disk
  pub place : ℕ
  pub none : ForSome disk.file (λ bytes. (bytes ≢ []) × IsNoLog script.tables bytes place)
  pub only_read : disk.only_read
  pub printed : Prints before.printed now.printed (log_text script.tables [] (Some place))
  pub outlet : LeavesOutlet before now

-- There was no memory to open the log: nothing ran, nothing was printed, the outlet was not started,
-- and the file is as it was.
pub record IsUnopened (log : Option (List ℕ)) (disk : OfDisk) (before now : Outside) : Type 0 where
  pub started : IsStartedFor log disk
  pub only_read : disk.only_read
  pub silent : IsSilent before now

-- The disk failed where the log was to be made or opened: nothing ran, nothing was printed, and the
-- outlet was not started. A file that was not empty is as it was.
pub record FailsLog (log : Option (List ℕ)) (disk : OfDisk) (before now : Outside) : Type 0 where
  pub started : MayBeStartedFor log disk
  pub only_read : ForSome disk.file (λ bytes. bytes ≢ [] → disk.only_read)
  pub silent : IsSilent before now

-- How the run of a workload ends, with this path for its export and this one for its log.
abbrev pub ScriptEnds : Option (List ℕ) → Option (List ℕ) → OfDisk → Script → Status → Outside
    → Outside → Type 0
ScriptEnds path log disk script status.Done before now =
    IsBuilt path log disk script status.Done before now
ScriptEnds path log disk script status.Usage before now = ⊥
ScriptEnds path log disk script status.Refused before now = ⊥
ScriptEnds path log disk script status.ReadFault before now = ⊥
ScriptEnds path log disk script status.OutFault before now =
    HasNoLog AppendsFront log disk script before now
    ⊎ IsLogFull AppendsFront log disk script before now
    ⊎ IsBuilt path log disk script status.OutFault before now
ScriptEnds path log disk script status.ExportFault before now =
    IsBuilt path log disk script status.ExportFault before now
ScriptEnds path log disk script status.Memory before now =
    IsUnopened log disk before now
    ⊎ IsUnbuilt log disk script before now
    ⊎ IsBuilt path log disk script status.Memory before now
ScriptEnds path log disk script status.NotAStream before now = ⊥
ScriptEnds path log disk script status.TooLong before now = ⊥
ScriptEnds path log disk script status.LogFault before now =
    FailsLog log disk before now
    ⊎ IsBuilt path log disk script status.LogFault before now
ScriptEnds path log disk script status.NotALog before now =
    HasNoLog Appends log disk script before now
ScriptEnds path log disk script status.LogFull before now =
    IsLogFull Appends log disk script before now
ScriptEnds path log disk script status.GroupTooLong before now =
    IsBuilt path log disk script status.GroupTooLong before now

-- The input is a workload, whose run ended so.
abbrev pub IsRunOf : Option (List ℕ) → Option (List ℕ) → OfDisk → Status → Outside → Outside
    → Type 0
IsRunOf path log disk ended before now =
    (script : Script) × Reads script before now × ScriptEnds path log disk script ended before now

-- How the program ends where the words ask for a run, with this path for its export and this one
-- for its log.
abbrev pub RunEnds : Option (List ℕ) → Option (List ℕ) → OfDisk → Status → Outside → Outside
    → Type 0
RunEnds path log disk status.Done before now = IsRunOf path log disk status.Done before now
RunEnds path log disk status.Usage before now = ⊥
RunEnds path log disk status.Refused before now = IsLeft disk × IsRefused Appends before now
RunEnds path log disk status.ReadFault before now = IsLeft disk × IsSilent before now
RunEnds path log disk status.OutFault before now =
    (IsLeft disk × IsRefused AppendsFront before now)
    ⊎ IsRunOf path log disk status.OutFault before now
RunEnds path log disk status.ExportFault before now =
    IsRunOf path log disk status.ExportFault before now
RunEnds path log disk status.Memory before now =
    (IsLeft disk × IsSilent before now)
    ⊎ IsRunOf path log disk status.Memory before now
RunEnds path log disk status.NotAStream before now = ⊥
RunEnds path log disk status.TooLong before now = IsLeft disk
    × ConsumesAtLeast before.left now.left (2 ^ 32) × IsSilent before now
RunEnds path log disk status.LogFault before now = IsRunOf path log disk status.LogFault before now
RunEnds path log disk status.NotALog before now = IsRunOf path log disk status.NotALog before now
RunEnds path log disk status.LogFull before now = IsRunOf path log disk status.LogFull before now
RunEnds path log disk status.GroupTooLong before now =
    IsRunOf path log disk status.GroupTooLong before now

-- ---- a stream that is shown

-- These bytes were read in pieces, and no piece behind the one that decided how they end: in front
-- of the last piece more could come, with which something else is read.
pub record AreReadSoon (bytes : List ℕ) : Type 0 where
  pub front : List ℕ
  pub last : List ℕ
  pub parts : bytes ≡ front ++ last
  pub small : length last ≤ 2 ^ 16
  pub going : IsOver front → ⊥

-- The bytes were read: to the end of the input, or to where what comes behind them is not looked
-- at.
pub record IsReadThrough (bytes : List ℕ) (before now : Outside) : Type 0 where
  pub read : Consumes before.left now.left bytes
  pub ended : IsAtEnd now.left ⊎ IsOver bytes
  pub soon : AreReadSoon bytes
  pub short : length bytes < 2 ^ 32 + 2 ^ 16

-- The text of what they read as is printed: the columns, the rows and their count, or what stands
-- in front of the first fault, and that fault.
pub record IsShown (Faults : Option StreamFault → Type 0) (before now : Outside) : Type 0 where
  pub bytes : List ℕ
  pub input : IsReadThrough bytes before now
  pub judged : Faults (reading_of bytes).fault
  pub printed : Appends before.printed now.printed (shown_text (reading_of bytes))
  pub outlet : LeavesOutlet before now

-- the bytes are a stream, or are none
abbrev pub IsStream : Option StreamFault → Type 0
IsStream fault = fault ≡ None

abbrev pub IsNoStream : Option StreamFault → Type 0
IsNoStream fault = IsSome fault

-- The text that is due of what was read: all lines in front of the last, or all.
abbrev pub IsDue : List ℕ → Outside → Outside → List ℕ → Type 0
IsDue bytes before now text = (text ≡ front_text (reading_of bytes))
    ⊎ (IsReadThrough bytes before now × (text ≡ shown_text (reading_of bytes)))

-- Only a front of what was due is printed, since the output failed.
pub record IsShownInPart (before now : Outside) : Type 0 where
  pub bytes : List ℕ
  pub read : Consumes before.left now.left bytes
  pub soon : AreReadSoon bytes
  pub short : length bytes < 2 ^ 32 + 2 ^ 16
  pub due : List ℕ
  pub is_due : IsDue bytes before now due
  pub printed : AppendsFront before.printed now.printed due
  pub outlet : LeavesOutlet before now

-- The lines in front of the last are printed, of the schema and of each row of a batch that is
-- whole, and more may come. Of bytes behind them, no more than a piece, nothing is shown.
pub record IsShownSoFar (shown lost : List ℕ) (before now : Outside) : Type 0 where
  pub read : Consumes before.left now.left (shown ++ lost)
  pub going : IsOver shown → ⊥
  pub small : length lost ≤ 2 ^ 16
  pub printed : Appends before.printed now.printed (front_text (reading_of shown))
  pub outlet : LeavesOutlet before now

-- How the program ends where the words ask for a stream to be shown.
abbrev pub ShowEnds : Status → Outside → Outside → Type 0
ShowEnds status.Done before now = IsShown IsStream before now
ShowEnds status.Usage before now = ⊥
ShowEnds status.Refused before now = ⊥
ShowEnds status.ReadFault before now = (shown : List ℕ) × IsShownSoFar shown [] before now
ShowEnds status.OutFault before now = IsShownInPart before now
ShowEnds status.ExportFault before now = ⊥
ShowEnds status.Memory before now = (shown lost : List ℕ) × IsShownSoFar shown lost before now
ShowEnds status.NotAStream before now = IsShown IsNoStream before now
ShowEnds status.TooLong before now = (shown : List ℕ) × (2 ^ 32 ≤ length shown)
    × IsShownSoFar shown [] before now
ShowEnds status.LogFault before now = ⊥
ShowEnds status.NotALog before now = ⊥
ShowEnds status.LogFull before now = ⊥
ShowEnds status.GroupTooLong before now = ⊥

-- ---- an output that is checked

-- the line that tells whether an output is explained, or the first line at which it is not
abbrev pub verdict_text : Option ℕ → List ℕ
verdict_text None = codes "explained" ++ line_feed ∷ []
verdict_text (Some line) = codes "not explained " ++ decimal line ++ line_feed ∷ []

-- The input was read to its end and is a workload with an output behind it, and it is printed
-- whether the output is explained.
pub record IsJudged
    (Prints : Option (List ℕ) → Option (List ℕ) → List ℕ → Type 0) (before now : Outside)
    : Type 0 where
  pub bytes : List ℕ
  pub input : IsRead bytes before now
  pub script : Script
  pub output : List ℕ
  pub checked : checked_of bytes ≡ Ok (script, output)
  pub printed : Prints before.printed now.printed (verdict_text (failing_line script output))
  pub outlet : LeavesOutlet before now

-- The input is no workload with an output behind it, and the line of its first fault is printed.
pub record IsNoneToCheck
    (Prints : Option (List ℕ) → Option (List ℕ) → List ℕ → Type 0) (before now : Outside)
    : Type 0 where
  pub bytes : List ℕ
  pub input : IsRead bytes before now
  pub fault : Fault
  pub first : checked_of bytes ≡ Err fault
  pub printed : Prints before.printed now.printed (refused_text fault)
  pub outlet : LeavesOutlet before now

-- How the program ends where the words ask for an output to be checked.
abbrev pub CheckEnds : Status → Outside → Outside → Type 0
CheckEnds status.Done before now = IsJudged Appends before now
CheckEnds status.Usage before now = ⊥
CheckEnds status.Refused before now = IsNoneToCheck Appends before now
CheckEnds status.ReadFault before now = IsSilent before now
CheckEnds status.OutFault before now = IsJudged AppendsFront before now
    ⊎ IsNoneToCheck AppendsFront before now
CheckEnds status.ExportFault before now = ⊥
CheckEnds status.Memory before now = IsSilent before now
CheckEnds status.NotAStream before now = ⊥
CheckEnds status.TooLong before now =
    ConsumesAtLeast before.left now.left (2 ^ 32) × IsSilent before now
CheckEnds status.LogFault before now = ⊥
CheckEnds status.NotALog before now = ⊥
CheckEnds status.LogFull before now = ⊥
CheckEnds status.GroupTooLong before now = ⊥

-- ---- a generated workload

-- The workload that the seed and the size generate ran, and what was counted of its replies is
-- printed. Nothing is read, and its export is dropped.
pub record IsBenched
    (Prints : Option (List ℕ) → Option (List ℕ) → List ℕ → Type 0) (seed size : ℕ)
    (before now : Outside)
    : Type 0 where
  pub left : now.left ≡ before.left
  pub counts : Counts
  pub ran : RanGenerated seed size counts
  pub printed : Prints before.printed now.printed (counts_text counts)
  pub outlet : LeavesOutlet before now

-- How the program ends where the words ask for a generated workload. Where one of its replies was
-- refused memory nothing is printed, and the status is Memory.
abbrev pub BenchEnds : ℕ → ℕ → Status → Outside → Outside → Type 0
BenchEnds seed size status.Done before now = IsBenched Appends seed size before now
BenchEnds seed size status.Usage before now = ⊥
BenchEnds seed size status.Refused before now = ⊥
BenchEnds seed size status.ReadFault before now = ⊥
BenchEnds seed size status.OutFault before now = IsBenched AppendsFront seed size before now
BenchEnds seed size status.ExportFault before now = ⊥
BenchEnds seed size status.Memory before now = now ≡ before
BenchEnds seed size status.NotAStream before now = ⊥
BenchEnds seed size status.TooLong before now = ⊥
BenchEnds seed size status.LogFault before now = ⊥
BenchEnds seed size status.NotALog before now = ⊥
BenchEnds seed size status.LogFull before now = ⊥
BenchEnds seed size status.GroupTooLong before now = ⊥

-- ---- a log that is told

-- the place where the bytes leave the form of a log, if they do
abbrev pub broken_at : LogEnd → Option ℕ
broken_at (log_end.Closed gate) = None
broken_at (log_end.Broken place) = Some place

-- The file's bytes read as commits of these tables, with this end, and their text is printed.
pub record PrintsLog
    (Prints : Option (List ℕ) → Option (List ℕ) → List ℕ → Type 0) (tables : List TableDecl)
    (file : Option (List ℕ)) (end : LogEnd) (before now : Option (List ℕ))
    : Type 0 where
  pub commits : History
  pub fit : AreCommitsOf tables commits
  pub read : ForSome file (λ bytes. ReadsAs tables bytes commits end)
  pub printed : Prints before now (log_text tables commits (broken_at end))

-- The input was read and is a workload, the disk was started with the path, and what its file reads
-- as, as a log of the workload's tables, is printed.
pub record IsLogTold
    (Prints : Option (List ℕ) → Option (List ℕ) → List ℕ → Type 0) (path : List ℕ) (disk : OfDisk)
    (end : LogEnd) (before now : Outside)
    : Type 0 where
  pub script : Script
  pub reads : Reads script before now
  pub started : IsStartedWith path disk
  pub told : PrintsLog Prints script.tables disk.file end before.printed now.printed
  pub outlet : LeavesOutlet before now

-- How the program ends where the words ask for the log at a path.
abbrev pub LogEnds : List ℕ → OfDisk → Status → Outside → Outside → Type 0
LogEnds path disk status.Done before now =
    (gate : ℕ) × IsLogTold Appends path disk (log_end.Closed gate) before now
LogEnds path disk status.Usage before now = ⊥
LogEnds path disk status.Refused before now = IsUnstarted disk × IsRefused Appends before now
LogEnds path disk status.ReadFault before now = IsUnstarted disk × IsSilent before now
LogEnds path disk status.OutFault before now =
    (IsUnstarted disk × IsRefused AppendsFront before now)
    ⊎ ((end : LogEnd) × IsLogTold AppendsFront path disk end before now)
LogEnds path disk status.ExportFault before now = ⊥
LogEnds path disk status.Memory before now = MayBeStarted path disk × IsSilent before now
LogEnds path disk status.NotAStream before now = ⊥
LogEnds path disk status.TooLong before now = IsUnstarted disk
    × ConsumesAtLeast before.left now.left (2 ^ 32) × IsSilent before now
LogEnds path disk status.LogFault before now =
    (script : Script) × Reads script before now × MayBeStarted path disk × IsSilent before now
LogEnds path disk status.NotALog before now =
    (place : ℕ) × IsLogTold Appends path disk (log_end.Broken place) before now
LogEnds path disk status.LogFull before now = ⊥
LogEnds path disk status.GroupTooLong before now = ⊥

-- How the program ends where the words ask for a text of its own: what it does, or its version.
-- Before they are judged there may be no memory.
abbrev pub TextEnds : List ℕ → Status → Outside → Outside → Type 0
TextEnds text status.Done before now = IsTold Appends text before now
TextEnds text status.Usage before now = ⊥
TextEnds text status.Refused before now = ⊥
TextEnds text status.ReadFault before now = ⊥
TextEnds text status.OutFault before now = IsTold AppendsFront text before now
TextEnds text status.ExportFault before now = ⊥
TextEnds text status.Memory before now = now ≡ before
TextEnds text status.NotAStream before now = ⊥
TextEnds text status.TooLong before now = ⊥
TextEnds text status.LogFault before now = ⊥
TextEnds text status.NotALog before now = ⊥
TextEnds text status.LogFull before now = ⊥
TextEnds text status.GroupTooLong before now = ⊥

-- How the program ends where the words ask for nothing that it does: the line that tells how it is
-- used is printed.
abbrev pub UsageEnds : Status → Outside → Outside → Type 0
UsageEnds status.Done before now = ⊥
UsageEnds status.Usage before now = IsTold Appends usage_line before now
UsageEnds status.Refused before now = ⊥
UsageEnds status.ReadFault before now = ⊥
UsageEnds status.OutFault before now = IsTold AppendsFront usage_line before now
UsageEnds status.ExportFault before now = ⊥
UsageEnds status.Memory before now = now ≡ before
UsageEnds status.NotAStream before now = ⊥
UsageEnds status.TooLong before now = ⊥
UsageEnds status.LogFault before now = ⊥
UsageEnds status.NotALog before now = ⊥
UsageEnds status.LogFull before now = ⊥
UsageEnds status.GroupTooLong before now = ⊥

-- How the work ends that the words ask for.
abbrev pub WorkEnds : Option Asked → OfDisk → Status → Outside → Outside → Type 0
WorkEnds None disk ended before now = UsageEnds ended before now
WorkEnds (Some (ToRun path log)) disk ended before now =
    RunEnds path log disk ended before now
WorkEnds (Some ToShow) disk ended before now = ShowEnds ended before now
WorkEnds (Some ToCheck) disk ended before now = CheckEnds ended before now
WorkEnds (Some (ToBench seed size)) disk ended before now = BenchEnds seed size ended before now
WorkEnds (Some (ToLog path)) disk ended before now = LogEnds path disk ended before now
WorkEnds (Some ToHelp) disk ended before now = TextEnds help_text ended before now
WorkEnds (Some ToVersion) disk ended before now = TextEnds version_line ended before now

-- whether the words ask to be told a log
abbrev pub asks_log : Option Asked → Bool
asks_log None = false
asks_log (Some (ToRun path log)) = false
asks_log (Some ToShow) = false
asks_log (Some ToCheck) = false
asks_log (Some (ToBench seed size)) = false
asks_log (Some (ToLog path)) = true
asks_log (Some ToHelp) = false
asks_log (Some ToVersion) = false

-- whether the words ask for a run whose commits are kept in a log
abbrev pub keeps_log : Option Asked → Bool
keeps_log None = false
keeps_log (Some (ToRun path log)) = is_some log
keeps_log (Some ToShow) = false
keeps_log (Some ToCheck) = false
keeps_log (Some (ToBench seed size)) = false
keeps_log (Some (ToLog path)) = false
keeps_log (Some ToHelp) = false
keeps_log (Some ToVersion) = false

-- whether a log was read, where the words ask for one
abbrev pub has_read : Status → Bool
has_read status.Done = true
has_read status.Usage = false
has_read status.Refused = false
has_read status.ReadFault = false
has_read status.OutFault = false
has_read status.ExportFault = false
has_read status.Memory = false
has_read status.NotAStream = false
has_read status.TooLong = false
has_read status.LogFault = false
has_read status.NotALog = true
has_read status.LogFull = false
has_read status.GroupTooLong = false

-- Where the words ask for a log that was read, a crash leaves just the bytes that were.
abbrev pub StaysAsRead : Option Asked → Status → Option (List ℕ) → (List ℕ → Type 0) → Type 0
StaysAsRead asked ended file may_leave = asks_log asked ≡ true → has_read ended ≡ true
    → ForSome file (LeavesJust may_leave)

-- ---- the flush behind it

-- whether the output is flushed behind a work that ended so: where it tells of no failed call
abbrev pub is_flushed : Status → Bool
is_flushed status.Done = true
is_flushed status.Usage = true
is_flushed status.Refused = true
is_flushed status.ReadFault = false
is_flushed status.OutFault = false
is_flushed status.ExportFault = false
is_flushed status.Memory = true
is_flushed status.NotAStream = true
is_flushed status.TooLong = true
is_flushed status.LogFault = false
is_flushed status.NotALog = true
is_flushed status.LogFull = true
is_flushed status.GroupTooLong = true

-- The work ended, with a status that tells of no failed call, and the flush behind it failed: all
-- that was due is printed, and how much of it was handed on is not told.
pub record FailsFlush
    (asked : Option Asked) (disk : OfDisk) (ended : Status) (before now : Outside) : Type 0
  where
    pub told : ended ≡ status.OutFault
    pub worked : Status
    pub well : is_flushed worked ≡ true
    pub work : WorkEnds asked disk worked before now

-- How the program ends, by what the words ask for: as the work does, or at the flush behind it.
abbrev pub Ends : Option Asked → OfDisk → Status → Outside → Outside → Type 0
Ends asked disk ended before now = WorkEnds asked disk ended before now
    ⊎ FailsFlush asked disk ended before now

-- With a status that tells of no failed call, all that was written to the output was flushed.
abbrev pub IsFlushed : Status → Option (List ℕ) → Option (List ℕ) → Type 0
IsFlushed ended flushed written = is_flushed ended ≡ true → flushed ≡ written

-- A run ends with this status only where a count of faults rose, and with any other the count is as
-- before.
pub record TellsFaults (of ended : Status) (before now : ℕ) : Type 0 where
  pub told : ended ≡ of → Rose before now
  pub kept : ended ≢ of → now ≡ before
