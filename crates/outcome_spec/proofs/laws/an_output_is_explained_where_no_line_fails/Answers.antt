use Rattle.std.proofs.Common.{◌≡◌, ℕ, true, List, [], Option, None, Some, Ok, Err, refl}
use Rattle.std.specs.Prelude.{is_ok, unwrap_or, Result}
use Rattle.std.specs.Result.{result_ok}
use Rattle.cell_model.specs.declared.table.TableDecl.{TableDecl}
use Rattle.isolation_spec.specs.Contents.{History}
use Rattle.workload_spec.specs.declared.script.Script.{Script}
use Rattle.outcome_spec.specs.Entries.{Entry}
use Rattle.outcome_spec.specs.Explained.{Explained, failing_line, replies_of, are_sound, is_sound, unsound_line}
use Rattle.outcome_spec.specs.Runs.{run_from}
use Rattle.outcome_spec.proofs.Conditions.{all-of_none, none-of_all}
use Rattle.outcome_spec.proofs.laws.an_output_is_explained_where_no_line_fails.Goals as goal

-- the line that fails, of what was read
abbrev failing : History → List TableDecl → Result (List Entry) ℕ → Option ℕ
failing first tables read = elim read [ Ok entries ↦ unsound_line (run_from first tables entries) | Err line ↦ Some line ]

-- no line fails where the forms hold and each reply is sound, and the other way round
chosen : (first : History) (tables : List TableDecl) (read : Result (List Entry) ℕ) → is_ok read ≡ true → are_sound (run_from first tables (unwrap_or (result_ok read) [])) ≡ true → failing first tables read ≡ None
chosen first tables (Ok entries) forms sound = none-of_all (λ (entry : Entry). entry.number) (is_sound (run_from first tables entries)) entries sound
chosen first tables (Err line) forms sound = absurd (let never : ⊥ = cc in never)

formed_and_sound : (first : History) (tables : List TableDecl) (read : Result (List Entry) ℕ) → failing first tables read ≡ None → (is_ok read ≡ true) × (are_sound (run_from first tables (unwrap_or (result_ok read) [])) ≡ true)
formed_and_sound first tables (Ok entries) none = (refl, all-of_none (λ (entry : Entry). entry.number) (is_sound (run_from first tables entries)) entries none)
formed_and_sound first tables (Err line) none = absurd (let never : ⊥ = cc in never)

no_line : (script : Script) (text : List ℕ) → Explained script text → failing_line script text ≡ None
no_line script text explained = chosen script.begun script.tables (replies_of script text) explained.forms explained.replies

explained_by : (script : Script) (text : List ℕ) → failing_line script text ≡ None → Explained script text
explained_by script text none =
    let both = formed_and_sound script.begun script.tables (replies_of script text) none in
    record { forms = both.0; replies = both.1 }

pub returns : goal.returns
returns c = λ script text. (no_line script text, explained_by script text)
