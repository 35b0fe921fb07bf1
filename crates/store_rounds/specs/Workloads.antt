-- How the run of a workload ends: which rounds ran, what was printed, and what was sent.
use Rattle.std.specs.Prelude.{◌≡◌, ◌≢◌, ◌⊎◌, ℕ, ◌+◌, Bool, true, false, List, [], ◌∷◌, ◌++◌, length}
use Rattle.std.specs.Prelude.{Option, Result, Ok, Err, if◌then◌else◌}
use Rattle.std.specs.Io.KnownBytes.{Appends}
use Rattle.byte_ports.specs.Calls.{AppendsFront, Rose}
use Rattle.export_spec.specs.Sent.{SaysAllSent}
use Rattle.outcome_spec.specs.Explained.{Explained}
use Rattle.workload_spec.specs.Valid.{is_export}
use Rattle.workload_spec.specs.declared.script.Line.{Line}
use Rattle.workload_spec.specs.declared.script.Script.{Script}
use Rattle.run_spec.specs.Occurrences.{Logged}
use Rattle.run_spec.specs.Ran.{Ran, RoundRun, Share}
use Rattle.run_laws.specs.Rounds.Fronts.{AreFirstLines, lines_of, with_rounds}
use Rattle.run_laws.specs.Rounds.Lines.{round_text}
use Rattle.store_rounds.specs.Logging.{FitsRecord, IsTooLong, OfLogged}
use Rattle.store_rounds.specs.Worked.{EndsAtExport}
use Rattle.workload_spec.specs.declared.reply.Who.TheVariants.{Session as TheSession}
use Rattle.store_rounds.specs.declared.fault.RunFault.{RunFault}
use Rattle.store_rounds.specs.declared.fault.RunFault.TheVariants as fault

-- The script ran with some log of events, with these rounds, and had this text, which snapshot
-- isolation explains; the outlet grew by what the text's lines say.
pub record Went
    (script : Script) (rounds : List RoundRun) (text : List ℕ)
    (exported exported_now : Option (List ℕ))
    : Type 0 where
  pub log : List Logged
  pub ran : Ran script log text
  pub rounds_are : ran.rounds ≡ rounds
  pub explained : Explained script text
  pub bytes : List ℕ
  pub sent : Appends exported exported_now bytes
  pub says : SaysAllSent script text bytes

-- What is told of a run: below `Goes asked ran added printed text` says that rounds of these lines
-- ran, that these are the rounds as they ran, that of these first ones the commits were added to the
-- run's log or were about to be, that so many of them were printed, were it in part, and that all had
-- this text.
abbrev pub OfRounds : Type 1
OfRounds = List (List Line) → List RoundRun → List RoundRun → ℕ → List ℕ → Type 0

-- All rounds ran, and their text was printed.
pub record GoesWhole (Goes : OfRounds) (script : Script) (before now : Option (List ℕ)) : Type 0 where
  pub ran : List RoundRun
  pub text : List ℕ
  pub went : Goes script.rounds ran ran (length ran) text
  pub printed : Appends before now text

-- The output failed at the text of a round, which ran last: that of the rounds before it was printed
-- whole, and of its own only a front.
pub record GoesCutOff
    (Goes : OfRounds) (script : Script) (before now : Option (List ℕ))
    : Type 0 where
  pub whole : List (List Line)
  pub round : List Line
  pub rest : List (List Line)
  pub rounds : script.rounds ≡ whole ++ round ∷ rest
  pub ran : List RoundRun
  pub last : RoundRun
  pub shown : List ℕ
  pub cut : List ℕ
  pub of_round : cut ≡ round_text script.tables (length whole + 1) last.shares
  pub went : Goes (whole ++ round ∷ []) (ran ++ last ∷ []) (ran ++ last ∷ []) (length ran + 1)
      (shown ++ cut)
  pub between : Option (List ℕ)
  pub printed : Appends before between shown
  pub cut_off : AppendsFront between now cut

-- The rounds whose commits may be in the log of a run that stopped at a round: these, and the last
-- one where it was to be added.
abbrev pub added_by : Bool → List RoundRun → RoundRun → List RoundRun
added_by adds ran last = if adds then ran ++ last ∷ [] else ran

-- The run stopped at a round: the rounds before it ran, and their text alone was printed. Of the
-- round these first lines of each session ran, and each worker made its turns, which is the last
-- round of the run; the text of this round's lines alone was not printed. Its commits were to be
-- added to the run's log, or nothing of them is there.
pub record GoesTo
    (Goes : OfRounds) (adds : Bool) (script : Script) (lines : List Line)
    (before now : Option (List ℕ))
    : Type 0 where
  pub whole : List (List Line)
  pub round : List Line
  pub rest : List (List Line)
  pub rounds : script.rounds ≡ whole ++ round ∷ rest
  pub first : AreFirstLines lines round
  pub ran : List RoundRun
  pub last : RoundRun
  pub shown : List ℕ
  pub hidden : List ℕ
  pub of_round : hidden ≡ round_text script.tables (length whole + 1) last.shares
  pub explained_shown : Explained (with_rounds whole script) shown
  pub went : Goes (whole ++ lines ∷ []) (ran ++ last ∷ []) (added_by adds ran last) (length ran)
      (shown ++ hidden)
  pub printed : Appends before now shown

-- A session's lines end at an export.
pub record LinesEndAtExport (lines : List Line) (session : ℕ) : Type 0 where
  pub front : List Line
  pub last : Line
  pub lines_are : lines_of session lines ≡ front ++ last ∷ []
  pub asked : is_export last.command ≡ true

-- The calls of a session are among these shares, and end at an export that is told `memory`.
pub record ToldMemory (shares : List Share) (session : ℕ) : Type 0 where
  pub before : List Share
  pub share : Share
  pub behind : List Share
  pub shares_are : shares ≡ before ++ share ∷ behind
  pub who : share.who ≡ TheSession session
  pub ends : EndsAtExport share.calls

-- It stopped behind a round that ran whole, whose text was not printed.
pub record GoesUnshown
    (Goes : OfRounds) (adds : Bool) (script : Script) (before now : Option (List ℕ))
    : Type 0 where
  pub lines : List Line
  pub to : GoesTo Goes adds script lines before now
  pub whole : lines ≡ to.round

-- It stopped behind a round whose commits were to be added to the log, which failed: there are some,
-- and a record takes them.
pub record GoesUnadded (Goes : OfRounds) (script : Script) (before now : Option (List ℕ)) : Type 0
  where
    pub unshown : GoesUnshown Goes true script before now
    pub fits : FitsRecord script unshown.to.ran unshown.to.last

-- It stopped before a round, of which nothing ran: the rounds before it ran, and their text was
-- printed.
pub record GoesBefore
    (Goes : OfRounds) (script : Script) (before now : Option (List ℕ))
    : Type 0 where
  pub whole : List (List Line)
  pub round : List Line
  pub rest : List (List Line)
  pub rounds : script.rounds ≡ whole ++ round ∷ rest
  pub ran : List RoundRun
  pub text : List ℕ
  pub went : Goes whole ran ran (length ran) text
  pub printed : Appends before now text

-- It stopped for want of memory: nothing of the last round is in the log.
abbrev pub GoesStopped : OfRounds → Script → Option (List ℕ) → Option (List ℕ) → Type 0
GoesStopped Goes script before now =
    GoesBefore Goes script before now ⊎ GoesUnshown Goes false script before now

-- It stopped behind a round whose commits are too long for a record of the log: nothing of them is
-- there.
pub record GoesTooLong
    (Goes : OfRounds) (script : Script) (before now : Option (List ℕ))
    : Type 0 where
  pub unshown : GoesUnshown Goes false script before now
  pub long : IsTooLong script unshown.to.ran unshown.to.last

-- It stopped behind a round in which the outlet failed at an export, which counts as answered
-- `memory`: its session stopped there, its calls of the run's last round end with this export, and
-- the others ended their lines. Nothing of the round is in the log.
pub record GoesToExport
    (Goes : OfRounds) (script : Script) (before now : Option (List ℕ))
    : Type 0 where
  pub lines : List Line
  pub to : GoesTo Goes false script lines before now
  pub session : ℕ
  pub last : LinesEndAtExport lines session
  pub told : ToldMemory to.last.shares session
  pub others : (other : ℕ) → other ≢ session → lines_of other lines ≡ lines_of other to.round

-- how a run ends that does not come to its last round
abbrev pub GoesPart : OfRounds → Script → RunFault → Option (List ℕ) → Option (List ℕ) → Type 0
GoesPart Goes script fault.Out before now = GoesCutOff Goes script before now
GoesPart Goes script fault.Export before now = GoesToExport Goes script before now
GoesPart Goes script fault.Memory before now = GoesStopped Goes script before now
GoesPart Goes script fault.Log before now = GoesUnadded Goes script before now
GoesPart Goes script fault.GroupTooLong before now = GoesTooLong Goes script before now

-- Rounds of these lines of the script went so, for an outlet that had and now has these bytes, and of
-- the run's log this can be told.
pub record WentBy
    (script : Script) (exported exported_now : Option (List ℕ)) (Logs : OfLogged)
    (asked : List (List Line)) (ran added : List RoundRun) (printed : ℕ) (text : List ℕ)
    : Type 0 where
  pub went : Went (with_rounds asked script) ran text exported exported_now
  pub logs : Logs added printed

-- a count of the output's faults: it rises where the output failed
abbrev pub CountsOutFault : {T : Type 0} → ℕ → ℕ → Result T RunFault → Type 0
CountsOutFault before now (Ok done) = now ≡ before
CountsOutFault before now (Err fault.Out) = Rose before now
CountsOutFault before now (Err fault.Export) = now ≡ before
CountsOutFault before now (Err fault.Memory) = now ≡ before
CountsOutFault before now (Err fault.Log) = now ≡ before
CountsOutFault before now (Err fault.GroupTooLong) = now ≡ before

-- a count of the outlet's faults: it rises where the outlet failed
abbrev pub CountsExportFault : {T : Type 0} → ℕ → ℕ → Result T RunFault → Type 0
CountsExportFault before now (Ok done) = now ≡ before
CountsExportFault before now (Err fault.Out) = now ≡ before
CountsExportFault before now (Err fault.Export) = Rose before now
CountsExportFault before now (Err fault.Memory) = now ≡ before
CountsExportFault before now (Err fault.Log) = now ≡ before
CountsExportFault before now (Err fault.GroupTooLong) = now ≡ before

-- a count of the log's disk: it rises where the disk failed
abbrev pub CountsLogFault : {T : Type 0} → ℕ → ℕ → Result T RunFault → Type 0
CountsLogFault before now (Ok done) = now ≡ before
CountsLogFault before now (Err fault.Out) = now ≡ before
CountsLogFault before now (Err fault.Export) = now ≡ before
CountsLogFault before now (Err fault.Memory) = now ≡ before
CountsLogFault before now (Err fault.Log) = Rose before now
CountsLogFault before now (Err fault.GroupTooLong) = now ≡ before

-- A run without a log leaves the disk as it was, and tells of no fault of a log.
pub record IsUnlogged
    {D T : Type 0} (old new : D) (result : Result T RunFault)
    : Type 0 where
  pub same : new ≡ old
  pub no_fault : result ≢ Err fault.Log
  pub fits : result ≢ Err fault.GroupTooLong
