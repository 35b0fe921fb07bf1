-- The cells of bytes in the rows of a workload are bytes, since their columns take no others.
use Rattle.std.proofs.Common.{◌≡◌, ℕ, ◌+◌, Bool, true, false, List, [], ◌∷◌, length, refl, arith}
use Rattle.std.specs.Prelude.{not, ◌&&◌, ◌==◌, nat_lt, None, Some, is_none, slice_get, if◌then◌else◌}
use Rattle.std.specs.List.{list_all}
use Rattle.std.proofs.lemmas.Bool.{eqb-true, and_parts}
use Rattle.cell_model.specs.declared.cell.Cell.{Cell}
use Rattle.cell_model.specs.declared.cell.Cell.TheVariants.{Null, Num, Truth, Text, Blob}
use Rattle.cell_model.specs.declared.column.Column.{Column}
use Rattle.cell_model.specs.declared.row.RowFault.TheVariants.{RangeAt, LongAt}
use Rattle.cell_model.specs.declared.table.TableDecl.{TableDecl}
use Rattle.cell_model.specs.Rows.{cell_fault, first_fault, fits}
use Rattle.cell_model.specs.Kinds.{values_of, takes_bytes}
use Rattle.cell_model.specs.Values.{are_bytes, most_bytes_of}
use Rattle.workload_spec.specs.declared.command.Command.{Command}
use Rattle.workload_spec.specs.declared.command.Command.TheVariants as command
use Rattle.workload_spec.specs.declared.script.Line.{Line}
use Rattle.workload_spec.specs.declared.script.Script.{Script}
use Rattle.workload_spec.specs.Valid.{is_within, is_command, all_lines, is_valid}
use Rattle.workload_laws.specs.Bytes.{has_only_bytes, written_row, writes_only_bytes}
use Rattle.workload_laws.proofs.Lists.{joined}
use Rattle.workload_laws.proofs.Rounds.{is_line_of}
use Rattle.workload_laws.proofs.CommandsBack.{fit_by, holds_some}
use Rattle.workload_laws.proofs.CellsBack.{first_fits}
use Rattle.workload_laws.proofs.ScriptsBack.{script_parts}

-- bytes that a kind takes are bytes
value_bytes : (at : ℕ) (kind bytes long : Bool)
    → is_none (if not (kind && bytes) then Some (RangeAt at) else if long then Some (LongAt at) else None) ≡ true → bytes ≡ true
value_bytes at true true long fit = refl
value_bytes at true false long fit = absurd cc
value_bytes at false bytes long fit = absurd cc

-- A cell that fits its column has only bytes.
cell_bytes : (at : ℕ) (column : Column) (cell : Cell) → is_none (cell_fault at column cell) ≡ true → has_only_bytes cell ≡ true
cell_bytes at column Null fit = refl
cell_bytes at column (Num number) fit = refl
cell_bytes at column (Truth truth) fit = refl
cell_bytes at column (Text text) fit = refl
cell_bytes at column (Blob bytes) fit =
    value_bytes at (takes_bytes (values_of column.kind) (length bytes)) (are_bytes bytes) (nat_lt (most_bytes_of column.kind) (length bytes)) fit

-- Cells that each fit their columns have only bytes.
cells_bytes : (at : ℕ) (columns : List Column) (cells : List Cell) → length cells ≡ length columns
    → is_none (first_fault at columns cells) ≡ true → list_all has_only_bytes cells ≡ true
cells_bytes at columns [] same fit = refl
cells_bytes at [] (cell ∷ cells) same fit = absurd (omega (arith, same))
cells_bytes at (column ∷ columns) (cell ∷ cells) same fit =
    let parts = first_fits (cell_fault at column cell) (first_fault (at + 1) columns cells) fit in
    joined (cell_bytes at column cell parts.0) (cells_bytes (at + 1) columns cells (omega (arith, same)) parts.1)

-- A row that fits its columns has only bytes.
row_bytes : (schema : List Column) (row : List Cell) → fits schema row ≡ true → list_all has_only_bytes row ≡ true
row_bytes schema row fit =
    let parts = fit_by (length row == length schema) (first_fault 0 schema row) fit in
    cells_bytes 0 schema row (eqb-true (length row) (length schema) parts.0) parts.1

-- What a valid command writes has only bytes.
command_bytes : (tables : List TableDecl) (read : Command) → is_command tables read ≡ true
    → list_all has_only_bytes (written_row read) ≡ true
command_bytes tables (command.Insert place row) is =
    let found = holds_some (λ (table : TableDecl). fits table.schema row) (slice_get tables place) is in
    row_bytes found.0.schema row found.2
command_bytes tables (command.Update place row) is =
    let found = holds_some (λ (table : TableDecl). fits table.schema row) (slice_get tables place) is in
    row_bytes found.0.schema row found.2
command_bytes tables _ is = refl

-- What the commands of valid lines write has only bytes.
lines_bytes : (tables : List TableDecl) (sessions : ℕ) (lines : List Line) → list_all (is_line_of tables sessions) lines ≡ true
    → list_all (λ line. list_all has_only_bytes (written_row line.command)) lines ≡ true
lines_bytes tables sessions [] are = refl
lines_bytes tables sessions (line ∷ lines) are =
    let first = and_parts (is_line_of tables sessions line) (list_all (is_line_of tables sessions) lines) are in
    let parts = and_parts (is_within 1 sessions line.session) (is_command tables line.command) first.0 in
    joined (command_bytes tables line.command parts.1) (lines_bytes tables sessions lines first.1)

-- the cells of bytes that a valid workload writes have bytes
pub valid_bytes : (script : Script) → is_valid script ≡ true → writes_only_bytes script ≡ true
valid_bytes script valid = lines_bytes script.tables script.sessions (all_lines script) (script_parts script valid).lines
