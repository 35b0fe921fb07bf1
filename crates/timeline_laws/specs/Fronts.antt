-- That a run that stopped is explained as the run of the front of its workload.
use Rattle.std.specs.Prelude.{◌≡◌, ℕ, ◌<◌, true, List, [], ◌++◌, length, Option}
use Rattle.cell_model.specs.declared.table.TableDecl.{TableDecl}
use Rattle.isolation_spec.specs.Commits.{AreCommitsOf}
use Rattle.isolation_spec.specs.Contents.{History}
use Rattle.isolation_spec.specs.Machine.{IsolationMachine, opening_from}
use Rattle.workload_spec.specs.Valid.{is_valid}
use Rattle.workload_spec.specs.declared.reply.Said.{Said}
use Rattle.workload_spec.specs.declared.script.Script.{Script}
use Rattle.outcome_spec.specs.Entries.{Entry}
use Rattle.outcome_spec.specs.Explained.{Explained}
use Rattle.outcome_spec.specs.Forms.{Due, dues_of}
use Rattle.timeline_spec.specs.Timeline.{RunsFrom}
use Rattle.timeline_spec.specs.Printed.{printed_of, text_of}
use Rattle.timeline_spec.specs.Forms.{AllMayStand}
use Rattle.timeline_spec.specs.Fronts.{first_rounds, front_of}

-- The first replies of a run came about as they are.
abbrev pub FrontRuns : Type 0
FrontRuns = (begun : History) (tables : List TableDecl) (front : List Entry)
    (machine : IsolationMachine) (first rest : List Entry)
    → RunsFrom begun tables front machine (first ++ rest) → RunsFrom begun tables front machine first

-- what is due in one workload is due first in another one
abbrev pub IsDueFirst : Script → Script → Type 0
IsDueFirst part script = (rest : List Due) × (dues_of script ≡ dues_of part ++ rest)

-- What is due in the first rounds is due first, and these are a workload where there is one.
abbrev pub RoundsAreDueFirst : Type 0
RoundsAreDueFirst = (script : Script) (count : ℕ) → IsDueFirst (first_rounds count script) script

abbrev pub RoundsAreValid : Type 0
RoundsAreValid = (script : Script) (count : ℕ) → 0 < count → is_valid script ≡ true
    → is_valid (first_rounds count script) ≡ true

-- Without workers, the same of the first rounds with the next round's lines up to some of a
-- session's.
abbrev pub FrontIsDueFirst : Type 0
FrontIsDueFirst = (script : Script) (rounds session count : ℕ) → script.workers ≡ 0
    → rounds < length script.rounds
    → IsDueFirst (front_of rounds session count script) script

abbrev pub FrontIsValid : Type 0
FrontIsValid = (script : Script) (rounds session count : ℕ) → rounds < length script.rounds
    → is_valid script ≡ true → is_valid (front_of rounds session count script) ≡ true

-- Where replies came about as they are printed, the text of the first of them, which answer what is
-- due in a front of the workload, is an explained output of that front over the same store.
abbrev pub FrontIsExplained : Type 0
FrontIsExplained = (script part : Script) (told later : List (Option Said)) → is_valid part ≡ true
    → AreCommitsOf part.tables part.begun
    → part.begun ≡ script.begun → part.tables ≡ script.tables → IsDueFirst part script
    → AllMayStand (dues_of part) told
    → RunsFrom script.begun script.tables [] (opening_from script.begun)
    (printed_of script (told ++ later))
    → Explained part (text_of part told)
