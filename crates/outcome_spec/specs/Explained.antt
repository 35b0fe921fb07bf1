-- An explained output: what its lines must be, and the first that isn't so.
use Rattle.std.specs.Prelude.{ℕ, Bool, ◌&&◌, not, List, [], find, ◌≡◌, ◌↔◌, Option, None, Some}
use Rattle.std.specs.Prelude.{is_ok, IsTrue, option_map, unwrap_or, Result, Ok, Err}
use Rattle.std.specs.List.{list_all}
use Rattle.std.specs.Result.{result_ok}
use Rattle.workload_spec.specs.declared.script.Script.{Script}
use Rattle.outcome_spec.specs.Lines.{lines_of}
use Rattle.outcome_spec.specs.Entries.{Entry}
use Rattle.outcome_spec.specs.Forms.{reading, dues_of}
use Rattle.outcome_spec.specs.Runs.{Run, run_from}
use Rattle.outcome_spec.specs.Numbers.{commit_numbers_hold, snapshot_numbers_hold}
use Rattle.outcome_spec.specs.Answers.{reads_hold, writes_hold}
use Rattle.outcome_spec.specs.Conflicts.{conflicts_hold}
use Rattle.outcome_spec.specs.Stale.{reads_last}
use Rattle.outcome_spec.specs.Upkeep.{freezing_holds, full_holds, exports_hold, upkeep_holds}

-- The replies of a text: its lines are those of the replies that are due, with number, order and
-- form. Where they are not, the line at which they fail.
abbrev pub replies_of : Script → List ℕ → Result (List Entry) ℕ
replies_of script text = reading script.tables (dues_of script) [] (lines_of text)

-- The text has the forms.
abbrev pub has_forms : Script → List ℕ → Bool
has_forms script text = is_ok (replies_of script text)

-- what a text with the forms shows
abbrev pub run_in : Script → List ℕ → Run
run_in script text = run_from script.begun script.tables (unwrap_or (result_ok (replies_of script text)) [])

-- The reply is what snapshot isolation and the counts of blocks allow, given all that is printed.
abbrev pub is_sound : Run → Entry → Bool
is_sound run entry =
    commit_numbers_hold run entry && snapshot_numbers_hold run entry
    && reads_hold run entry && writes_hold run entry && conflicts_hold run entry
    && freezing_holds run entry && full_holds run entry && exports_hold run entry
    && upkeep_holds run entry && reads_last run entry

-- Each of the replies is.
abbrev pub are_sound : Run → Bool
are_sound run = list_all (is_sound run) run.entries

-- An explained output of a script: its lines have their forms, and each reply is sound. Printed
-- lines alone are spoken of.
pub record Explained (script : Script) (text : List ℕ) : Type 0 where
  pub forms : IsTrue (has_forms script text)
  pub replies : IsTrue (are_sound (run_in script text))

-- the line of the first reply that isn't sound
abbrev pub unsound_line : Run → Option ℕ
unsound_line run = option_map (λ entry. entry.number)
    (find (λ entry. not (is_sound run entry)) run.entries)

-- The line at which an output fails to be explained: the one that fails the forms, else the least
-- that isn't sound; none where it is explained.
abbrev pub failing_line : Script → List ℕ → Option ℕ
failing_line script text = elim (replies_of script text)
    [ Ok entries ↦ unsound_line (run_from script.begun script.tables entries) | Err line ↦ Some line ]

-- An output is explained exactly where it fails at no line.
abbrev pub ExplainedWhereNoLineFails : Type 0
ExplainedWhereNoLineFails = (script : Script) (text : List ℕ)
    → Explained script text ↔ (failing_line script text ≡ None)
