use Rattle.std.proofs.Common.{◌≡◌, ℕ, ◌<◌, ◌≤◌, List, length, get_or, take, ap, ◌∙◌, sym, subst, arith}
use Rattle.std.specs.Prelude.{Some, slice_get}
use Rattle.std.specs.Int.{Width}
use Rattle.std.specs.List.{flat_map}
use Rattle.std.proofs.lemmas.List.Folds.{flat_map-map}
use Rattle.cell_model.specs.declared.cell.Cell.{Cell}
use Rattle.cell_model.specs.declared.column.Column.{Column}
use Rattle.arrow_spec.specs.Arrays.{layout_of, number_of, strip_of}
use Rattle.arrow_spec.specs.Bytes.{number_bytes}
use Rattle.block_columns.specs.Cells.{ColumnValue}
use Rattle.block_columns.specs.Columns.{ColumnsValue, cell_of, rows_in}
use Rattle.block_columns.proofs.Rowed.{column_there, first_cells, columns_long}
use Rattle.block_columns.proofs.columns.Columns.fixed_bytes.Goals as goal

pub index-requires : goal.index-requires
index-requires c =
    omega (arith, c.requires.column, ap (λ (v : ColumnsValue). length v.columns) c.self.view_is, columns_long c.self.inside.columns.items)

within : (c : goal.After-fixed_bytes) → c.args.column < length c.self.inside.columns.items
within c = omega (arith, c.requires.column, ap (λ (v : ColumnsValue). length v.columns) c.self.view_is, columns_long c.self.inside.columns.items)

room : (c : goal.After-fixed_bytes) → c.args.n ≤ length c.self.inside.taken
room c = omega (arith, c.requires.room, ap (λ (v : ColumnsValue). v.room) c.self.view_is)

pub fixed_bytes-requires : goal.fixed_bytes-requires
fixed_bytes-requires c =
    let lt : c.args.column < length c.self.inside.columns.items =
    omega (arith, c.requires.column, ap (λ (v : ColumnsValue). length v.columns) c.self.view_is, columns_long c.self.inside.columns.items) in
    let cells : length c.self.inside.taken ≤ length (get_or c.self.inside.columns.items c.args.column c.index.result.now).cells =
    c.self.invariant.room c.args.column c.index.result.now lt in
    subst (λ (v : ColumnValue). c.args.n ≤ length v.cells) (sym c.index.ensures)
    (omega (arith, cells, c.requires.room, ap (λ (v : ColumnsValue). v.room) c.self.view_is))

-- The column that was read is the one that is declared.
declared : (c : goal.After-fixed_bytes) (decl : Column) → slice_get c.args.self.now.columns c.args.column ≡ Some decl → c.index.result.now.column ≡ decl
declared c decl found =
    let there : Some (get_or c.self.inside.columns.items c.args.column c.index.result.now).column ≡ Some decl =
    sym (column_there c.self.inside.columns.items c.args.column c.index.result.now (within c))
    ∙ ap (λ (v : ColumnsValue). slice_get v.columns c.args.column) c.self.view_is ∙ found in
    let column : (get_or c.self.inside.columns.items c.args.column c.index.result.now).column ≡ decl = cc in
    ap (λ (v : ColumnValue). v.column) c.index.ensures ∙ column

-- The bytes of its first cells are those of the first rows' cells.
of_rows : (c : goal.After-fixed_bytes) (bytes : Cell → List ℕ)
    → flat_map bytes (take c.args.n c.index.result.now.cells) ≡ flat_map (λ row. bytes (cell_of c.args.column row)) (take c.args.n c.args.self.now.rows)
of_rows c bytes =
    ap (λ (v : ColumnValue). flat_map bytes (take c.args.n v.cells)) c.index.ensures
    ∙ ap (λ (cells : List Cell). flat_map bytes cells)
    (first_cells c.self.inside.taken c.self.inside.columns.items c.self.inside.slots c.args.column c.args.n c.index.result.now c.self.invariant (within c) (room c))
    ∙ flat_map-map bytes (cell_of c.args.column) (take c.args.n (rows_in c.self.inside.taken c.self.inside.columns.items c.self.inside.slots))
    ∙ ap (λ (v : ColumnsValue). flat_map (λ row. bytes (cell_of c.args.column row)) (take c.args.n v.rows)) c.self.view_is

pub returns-clause-numbers : goal.returns-clause-numbers
returns-clause-numbers c = λ (width : Width) (decl : Column) found same.
    c.fixed_bytes.ensures.numbers width (ap (λ (d : Column). layout_of d.kind) (declared c decl found) ∙ same)
    ∙ of_rows c (λ cell. number_bytes width (number_of cell))

pub returns-clause-strips : goal.returns-clause-strips
returns-clause-strips c = λ (width : ℕ) (decl : Column) found same.
    c.fixed_bytes.ensures.strips width (ap (λ (d : Column). layout_of d.kind) (declared c decl found) ∙ same)
    ∙ of_rows c (strip_of width)
