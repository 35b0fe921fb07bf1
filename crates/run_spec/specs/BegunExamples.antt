-- Worked examples of calls over a store that begins with two commits: what its log replies, and the
-- lines that are made of it.
use Rattle.std.specs.Prelude.{◌≡◌, false, List, [], ◌∷◌, ◌++◌, codes, drop, None, Some}
use Rattle.event_spec.specs.declared.event.Event.TheVariants as event
use Rattle.event_spec.specs.declared.own.OwnTransaction.{OwnTransaction}
use Rattle.event_spec.specs.declared.reply.Reply.TheVariants as reply
use Rattle.outcome_spec.specs.BegunExamples.{behind_two, two_commits}
use Rattle.outcome_spec.specs.Samples.{begin, commit, scan, text_row}
use Rattle.workload_spec.specs.declared.command.Command.{Command}
use Rattle.workload_spec.specs.declared.command.Command.TheVariants as command
use Rattle.workload_spec.specs.declared.reply.Said.{Said}
use Rattle.workload_spec.specs.declared.reply.Said.TheVariants as said
use Rattle.workload_spec.specs.declared.script.Script.{Script}
use Rattle.run_spec.specs.Calls.{IsCall}
use Rattle.run_spec.specs.Commits.{history_behind}
use Rattle.run_spec.specs.Occurrences.{Logged, Occurrence, occurrences_in, replies_in}
use Rattle.run_spec.specs.Ran.{shape_of}
use Rattle.run_spec.specs.RunExamples.{by}

-- two sessions over a table of two blocks, in which the commits leave one row
abbrev pub script : Script
script = behind_two ((begin 1 ∷ scan 1 ∷ commit 1 ∷ []) ∷ [])

abbrev pub own : OwnTransaction
own = record { session = 1; snapshot = record { stamp = 0; number = 2 }; writes = [] }

abbrev pub begins : List Logged
begins = by 1 (event.Begin 1) ∷ []

abbrev pub reads : List Logged
reads = by 1 (event.Read own 0 0) ∷ by 1 (event.Read own 0 1) ∷ []

abbrev pub made : List Logged → List Occurrence
made log = occurrences_in (shape_of script) log

-- The first begin is told two commits, and the reads the row that these
-- left; behind these events are the two commits alone.
abbrev pub LogsBeginBehindCommits : Type 0
LogsBeginBehindCommits =
    (replies_in (made (begins ++ reads))
    ≡ reply.Begun (record { stamp = 0; number = 2 })
    ∷ reply.Rows (text_row 1 (codes "y") ∷ [])
    ∷ reply.Rows []
    ∷ [])
    × (history_behind script.begun (made (begins ++ reads)) ≡ two_commits)

-- A session's command behind its begin made the two reads, and was told this.
abbrev pub TellsOfReads : Command → Said → Type 0
TellsOfReads asked told = IsCall
    (shape_of script)
    false
    1
    (made begins)
    (record {
      command = asked;
      made = drop 1 (made (begins ++ reads));
      told = Some told;
      reads = None;
    })

abbrev pub TellsOfBegin : Said → Type 0
TellsOfBegin told = IsCall
    (shape_of script)
    false
    1
    []
    (record { command = command.Begin false; made = made begins; told = Some told; reads = None })

-- The lines show the row and the number of commits, and nothing else.
abbrev pub LinesShowTheFirstRows : Type 0
LinesShowTheFirstRows =
    TellsOfBegin (said.At 2)
    × (TellsOfBegin (said.At 0) → ⊥)
    × TellsOfReads (command.Scan 0) (said.Scanned (text_row 1 (codes "y") ∷ []))
    × (TellsOfReads (command.Scan 0) (said.Scanned []) → ⊥)
    × (TellsOfReads (command.Scan 0) (said.Scanned (text_row 1 (codes "x") ∷ [])) → ⊥)
    × TellsOfReads (command.Export 0) (said.Exported 2 1 1 0)
    × (TellsOfReads (command.Export 0) (said.Exported 2 0 0 0) → ⊥)
