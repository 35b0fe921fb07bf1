-- What is read of a command's words, as a reader goes through them.
use Rattle.std.specs.Prelude.{ℕ, Bool, ◌&&◌, not, ◌∷◌, List, Result, Ok}
use Rattle.cell_model.specs.declared.cell.Cell.{Cell}
use Rattle.cell_model.specs.declared.cell.Cell.TheVariants.{Num}
use Rattle.cell_model.specs.declared.column.Column.{Column}
use Rattle.cell_model.specs.declared.table.TableDecl.{TableDecl}
use Rattle.workload_spec.specs.declared.command.Command.{Command}
use Rattle.workload_spec.specs.declared.extent.Extent.{Extent}
use Rattle.workload_spec.specs.declared.script.Cause.{Cause}
use Rattle.workload_spec.specs.declared.script.Cause.TheVariants as cause
use Rattle.workload_spec.specs.declared.script.Line.{Line}
use Rattle.workload_spec.specs.Valid.{is_export}
use Rattle.workload_spec.specs.Grammar.{◌>>=◌, or_cause, rule, word, no_word, number, key_in}
use Rattle.workload_spec.specs.Grammar.{cells_of, form_of, formed}

-- the row of a key's cell and of the words of the further columns
abbrev pub row_read : List Column → Cell → List (List ℕ) → Result (List Cell) Cause
row_read columns key words = cells_of columns words >>= λ cells. Ok (key ∷ cells)

-- the row of a key's word and of the words of the further columns
abbrev pub keyed_row : List Column → List ℕ → List (List ℕ) → Result (List Cell) Cause
keyed_row columns key_word words = key_in key_word >>= λ key. row_read columns (Num key) words

-- the command, where no word is left
abbrev pub alone_read : Command → List (List ℕ) → Result Command Cause
alone_read command words = no_word cause.Command words >>= λ end. Ok command

-- the command of a first word and those behind it
abbrev pub command_read : Extent → List TableDecl → List ℕ → List (List ℕ) → Result Command Cause
command_read extent tables first words = or_cause cause.Command (form_of extent first) >>= λ form.
    formed tables form words

-- the line of a session and a command
abbrev pub line_read : Extent → List TableDecl → ℕ → Bool → List (List ℕ) → Result Line Cause
line_read extent tables sessions exported words = do
  session ← number cause.Session 1 sessions words
  first ← word cause.Command session.1
  command ← command_read extent tables first.0 first.1
  once ← rule cause.Export (not (exported && is_export command))
  Ok (record { session = session.0; command = command })
