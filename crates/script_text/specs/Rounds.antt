-- The text of rounds, one behind another.
use Rattle.std.specs.Prelude.{ℕ, List, [], ◌∷◌, ◌++◌, map, codes}
use Rattle.cell_model.specs.declared.table.TableDecl.{TableDecl}
use Rattle.workload_spec.specs.declared.script.Line.{Line}
use Rattle.workload_spec.specs.Words.{lines_text}
use Rattle.workload_spec.specs.ScriptText.{line_text}

-- the lines of rounds, each round behind a line `--`
abbrev pub rounds_behind : List TableDecl → List (List Line) → List ℕ
rounds_behind tables [] = []
rounds_behind tables (round ∷ rounds) = codes "--\n"
    ++ (lines_text (map (line_text tables) round) ++ rounds_behind tables rounds)
