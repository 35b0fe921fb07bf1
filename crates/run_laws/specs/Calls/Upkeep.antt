-- What upkeep is told: never what a read or a write is.
use Rattle.std.specs.Prelude.{◌≡◌, ⊤, ℕ, Bool, true, List, [], ◌∷◌, Some}
use Rattle.event_spec.specs.Parts.{Parts, Shape}
use Rattle.event_spec.specs.Replay.{reply_after}
use Rattle.outcome_spec.specs.Forms.{is_upkeep}
use Rattle.timeline_spec.specs.Timeline.{is_of_upkeep}
use Rattle.workload_spec.specs.declared.reply.Said.{Said}
use Rattle.workload_spec.specs.declared.script.Script.{Script}
use Rattle.run_spec.specs.Calls.{Call, IsCall}
use Rattle.run_spec.specs.Occurrences.{Logged, Occurrence, occurrences_from}
use Rattle.run_spec.specs.Ran.{IsDone, Share, shape_of}

-- the reply is the replay's: want of memory, or what the event replies over the parts before it
abbrev pub IsReplied : Shape → Occurrence → Type 0
IsReplied shape occurrence = (refused : Bool)
    × (occurrence.reply
    ≡ reply_after shape occurrence.before (record { event = occurrence.event; refused = refused }))

abbrev pub AreReplied : Shape → List Occurrence → Type 0
AreReplied shape [] = ⊤
AreReplied shape (first ∷ rest) = IsReplied shape first × AreReplied shape rest

-- The line of an upkeep command, of a session's or of a worker's, is one of upkeep.
abbrev pub UpkeepIsToldSo : Type 0
UpkeepIsToldSo = (shape : Shape) (worker : Bool) (session : ℕ)
    (front : List Occurrence) (call : Call) (line : Said)
    → is_upkeep call.command ≡ true
    → AreReplied shape call.made
    → IsCall shape worker session front call
    → call.told ≡ Some line
    → is_of_upkeep line ≡ true

-- So are the replies of a log,
abbrev pub LogsAreReplied : Type 0
LogsAreReplied = (shape : Shape) (parts : Parts) (log : List Logged)
    → AreReplied shape (occurrences_from shape parts log)

-- and then those of each call of a share that was done in a part of it.
abbrev pub AreAllReplied : Shape → List Call → Type 0
AreAllReplied shape [] = ⊤
AreAllReplied shape (call ∷ calls) = AreReplied shape call.made × AreAllReplied shape calls

abbrev pub SharesAreReplied : Type 0
SharesAreReplied = (script : Script) (front made : List Occurrence) (share : Share)
    → AreReplied (shape_of script) made
    → IsDone script front made share
    → AreAllReplied (shape_of script) share.calls
