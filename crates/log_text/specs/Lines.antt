-- The text of a log: its commits, line by line, and the place where its bytes are no log.
use Rattle.std.specs.Prelude.{ℕ, ◌+◌, List, [], ◌∷◌, ◌++◌, codes, decimal, flat_map, Option, None}
use Rattle.std.specs.Prelude.{Some}
use Rattle.std.specs.Fmt.{signed_decimal}
use Rattle.cell_model.specs.declared.cell.Cell.{Cell}
use Rattle.cell_model.specs.declared.table.TableDecl.{TableDecl}
use Rattle.isolation_spec.specs.Contents.{History, WriteSet}
use Rattle.isolation_spec.specs.declared.place.Place.{Place}
use Rattle.workload_spec.specs.ScriptText.{name_of_table}
use Rattle.workload_spec.specs.Words.{cell_words, lines_text, spaced}

-- What was left at a place: `put`, the table's name and the row's cells, the first of which is its
-- key; or `delete`, the name and the key, where no row was left.
abbrev pub left_words : List TableDecl → Place → Option (List Cell) → List (List ℕ)
left_words tables place (Some row) = codes "put" ∷ name_of_table tables place.table ∷ cell_words row
left_words tables place None = codes "delete" ∷ name_of_table tables place.table
    ∷ signed_decimal place.key ∷ []

-- a write, behind a bar
abbrev pub write_words : List TableDecl → Place × Option (List Cell) → List (List ℕ)
write_words tables write = codes "|" ∷ left_words tables write.0 write.1

-- the line of a commit: its number, and its writes
abbrev pub commit_line : List TableDecl → ℕ → WriteSet → List ℕ
commit_line tables number writes = spaced (decimal number ∷ flat_map (write_words tables) writes)

-- the lines of commits, the first of which has this number
abbrev pub commit_lines : List TableDecl → ℕ → History → List (List ℕ)
commit_lines tables number [] = []
commit_lines tables number (writes ∷ commits) = commit_line tables number writes
    ∷ commit_lines tables (number + 1) commits

-- the line behind them, where the bytes leave the form of a log at a place
abbrev pub broken_lines : Option ℕ → List (List ℕ)
broken_lines None = []
broken_lines (Some place) = spaced
    (codes "not" ∷ codes "a" ∷ codes "log" ∷ codes "at" ∷ decimal place ∷ []) ∷ []

-- The text of what is read of a log: its commits, or those in front of a place at which its bytes
-- are none.
abbrev pub log_text : List TableDecl → History → Option ℕ → List ℕ
log_text tables commits broken = lines_text (commit_lines tables 1 commits ++ broken_lines broken)
