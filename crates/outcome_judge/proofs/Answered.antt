-- What is answered of an output that is read, and of one that is not.
use Rattle.std.proofs.Common.{◌≡◌, ℕ, List, Option, Some, Ok, Err, ap}
use Rattle.std.specs.Prelude.{Result, IfOk}
use Rattle.workload_spec.specs.declared.script.Script.{Script}
use Rattle.outcome_spec.specs.Entries.{Entry}
use Rattle.outcome_spec.specs.Explained.{failing_line, replies_of, unsound_line}
use Rattle.outcome_spec.specs.Runs.{run_from}

-- The line at which an output fails, by what was read of it.
abbrev answer-of : Script → Result (List Entry) ℕ → Option ℕ
answer-of script told = elim told [ Ok entries ↦ unsound_line (run_from script.begun script.tables entries) | Err line ↦ Some line ]

-- an output that is not read fails at the line at which reading does
pub unread : (script : Script) (text : List ℕ) (line : ℕ) → replies_of script text ≡ Err line → failing_line script text ≡ Some line
unread script text line h = ap (answer-of script) h

-- an output that is read fails at the line of the first reply that is not sound
pub read-fails : (script : Script) (text : List ℕ) (entries : List Entry) → replies_of script text ≡ Ok entries → failing_line script text ≡ unsound_line (run_from script.begun script.tables entries)
read-fails script text entries h = ap (answer-of script) h

-- what is said of the value of an answer is weakened
pub ok-map : (Y E : Type 0) (r : Result Y E) (P Q : Y → Type 0) → ((value : Y) → P value → Q value) → IfOk r P → IfOk r Q
ok-map Y E (Ok value) P Q on h = on value h
ok-map Y E (Err e) P Q on h = tt
