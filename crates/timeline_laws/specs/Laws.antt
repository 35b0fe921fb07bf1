-- That replies which came about in some order are explained.
use Rattle.std.specs.Prelude.{◌≡◌, ℕ, true, List, [], Option, Ok, IsTrue}
use Rattle.cell_model.specs.declared.table.TableDecl.{TableDecl}
use Rattle.isolation_spec.specs.Commits.{AreCommitsOf}
use Rattle.isolation_spec.specs.Contents.{History}
use Rattle.isolation_spec.specs.Machine.{opening_from}
use Rattle.workload_spec.specs.Valid.{is_valid}
use Rattle.workload_spec.specs.declared.reply.Said.{Said}
use Rattle.workload_spec.specs.declared.script.Script.{Script}
use Rattle.outcome_spec.specs.Entries.{Entry}
use Rattle.outcome_spec.specs.Explained.{Explained, replies_of, are_sound}
use Rattle.outcome_spec.specs.Forms.{dues_of}
use Rattle.outcome_spec.specs.Runs.{run_from}
use Rattle.timeline_spec.specs.Timeline.{InOrder, RunsFrom, TimelineFrom}
use Rattle.timeline_spec.specs.Printed.{printed_of, text_of}
use Rattle.timeline_spec.specs.Forms.{AllMayStand}

-- The replies of a timeline are sound, in whatever order they came about, and whatever commits the
-- store began with.
abbrev pub TimelineIsSound : Type 0
TimelineIsSound = (first : History) (tables : List TableDecl) (printed timeline : List Entry)
    → TimelineFrom first tables printed timeline → IsTrue (are_sound (run_from first tables printed))

-- A text that is read as the replies of a timeline is explained.
abbrev pub TimelineIsExplained : Type 0
TimelineIsExplained = (script : Script) (text : List ℕ) (printed timeline : List Entry)
    → replies_of script text ≡ Ok printed
    → TimelineFrom script.begun script.tables printed timeline
    → Explained script text

-- Printed replies are in an order in which they may have come about.
abbrev pub PrintedAreInOrder : Type 0
PrintedAreInOrder = (script : Script) (told : List (Option Said)) → InOrder (printed_of script told)

-- Replies that came about one after the other as they are printed are a timeline.
abbrev pub PrintedInTurn : Type 0
PrintedInTurn = (script : Script) (told : List (Option Said))
    → RunsFrom script.begun script.tables [] (opening_from script.begun) (printed_of script told)
    → TimelineFrom script.begun script.tables (printed_of script told) (printed_of script told)

-- The printed text of a timeline is read back as its replies, where what its store began with are
-- commits of the tables.
abbrev pub TimelineIsRead : Type 0
TimelineIsRead = (script : Script) (told : List (Option Said)) (timeline : List Entry)
    → is_valid script ≡ true
    → AreCommitsOf script.tables script.begun
    → AllMayStand (dues_of script) told
    → TimelineFrom script.begun script.tables (printed_of script told) timeline
    → replies_of script (text_of script told) ≡ Ok (printed_of script told)

-- The law of a run: the printed text of a timeline is explained, in whatever order its replies came
-- about.
abbrev pub RunIsExplained : Type 0
RunIsExplained = (script : Script) (told : List (Option Said)) (timeline : List Entry)
    → is_valid script ≡ true
    → AreCommitsOf script.tables script.begun
    → AllMayStand (dues_of script) told
    → TimelineFrom script.begun script.tables (printed_of script told) timeline
    → Explained script (text_of script told)

-- Replies that came about as they are printed are explained.
abbrev pub InTurnIsExplained : Type 0
InTurnIsExplained = (script : Script) (told : List (Option Said)) → is_valid script ≡ true
    → AreCommitsOf script.tables script.begun
    → AllMayStand (dues_of script) told
    → RunsFrom script.begun script.tables [] (opening_from script.begun) (printed_of script told)
    → Explained script (text_of script told)
