-- A table's line, with its end apart.
use Rattle.std.specs.Prelude.{ℕ, ◌%◌, ◌==◌, not, List, [], ◌∷◌, codes, Result, Ok}
use Rattle.cell_model.specs.declared.column.Column.{Column}
use Rattle.cell_model.specs.declared.table.TableDecl.{TableDecl}
use Rattle.cell_model.specs.Schemas.{most_slots_of}
use Rattle.workload_spec.specs.declared.script.Cause.{Cause}
use Rattle.workload_spec.specs.declared.script.Cause.TheVariants as cause
use Rattle.workload_spec.specs.declared.extent.Extent.{Extent}
use Rattle.workload_spec.specs.Valid.{most_blocks, least_slots, is_name, is_declared}
use Rattle.workload_spec.specs.Grammar.{◌>>=◌, rule, word, no_word, keyword, number, key_column}
use Rattle.workload_spec.specs.Grammar.{columns_from}

-- `slots` and `blocks` with their numbers, which end a table's line
abbrev pub limits_of : List Column → List (List ℕ) → Result (ℕ × ℕ) Cause
limits_of columns words = do
  slots_word ← keyword cause.Slots (codes "slots") words
  slots ← number cause.Slots least_slots (most_slots_of columns) slots_word
  eighths ← rule cause.Slots (slots.0 % 8 == 0)
  blocks_word ← keyword cause.Blocks (codes "blocks") slots.1
  blocks ← number cause.Blocks 1 most_blocks blocks_word
  end ← no_word cause.Blocks blocks.1
  Ok (slots.0, blocks.0)

-- the table of a line's words
abbrev pub table_read : Extent → List TableDecl → List (List ℕ) → Result TableDecl Cause
table_read extent tables words = do
  line ← keyword cause.Table (codes "table") words
  name ← word cause.Name line
  named ← rule cause.Name (is_name name.0)
  own ← rule cause.Twice (not (is_declared name.0 tables))
  key ← keyword cause.Key (codes "key:i64") name.1
  columns ← columns_from extent (key_column ∷ []) key
  limits ← limits_of columns.0 columns.1
  Ok (record { name = name.0; schema = columns.0; slots = limits.0; blocks = limits.1 })
