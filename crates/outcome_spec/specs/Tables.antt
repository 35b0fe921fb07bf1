-- The declared tables by their places.
use Rattle.std.specs.Prelude.{ℕ, List, [], slice_get}
use Rattle.std.specs.Option.{option_map_or}
use Rattle.cell_model.specs.declared.column.Column.{Column}
use Rattle.cell_model.specs.declared.table.TableDecl.{TableDecl}

-- the columns of a table
abbrev pub columns_at : List TableDecl → ℕ → List Column
columns_at tables table = option_map_or (λ decl. decl.schema) (slice_get tables table) []

-- how many rows a block of the table takes
abbrev pub slots_at : List TableDecl → ℕ → ℕ
slots_at tables table = option_map_or (λ decl. decl.slots) (slice_get tables table) 0

-- how many blocks the table has
abbrev pub blocks_at : List TableDecl → ℕ → ℕ
blocks_at tables table = option_map_or (λ decl. decl.blocks) (slice_get tables table) 0
