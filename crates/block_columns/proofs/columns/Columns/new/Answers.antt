use Rattle.std.proofs.Common.{map, replicate, [], Bool, List, length, ap, ◌∙◌}
use Rattle.std.specs.Prelude.{Option, None}
use Rattle.cell_model.specs.declared.cell.Cell.{Cell}
use Rattle.cell_model.specs.declared.column.Column.{Column}
use Rattle.block_spec.specs.Fitting.{columns_of}
use Rattle.block_columns.specs.Cells.{ColumnValue}
use Rattle.block_columns.specs.Columns.{ColumnsValue, columns_in, rows_in}
use Rattle.std.proofs.lemmas.List.{take_all}
use Rattle.block_columns.proofs.Rowed.{new_columns, new_rows, new_names}
use Rattle.block_columns.proofs.columns.Columns.new.Goals as goal

abbrev made : Column → ColumnValue
made c = record { column = record c { name = [] }; cells = [] }

pub invariant_of-result : goal.invariant_of-result
invariant_of-result c = new_columns c.in_ok-new-2.field-0 c.loop-column.columns.items c.args.schema.now c.args.slots c.in_ok-new-2.ensures
    (c.loop-column.invariant.made ∙ ap (λ (l : List Column). map made l) (take_all c.loop-column.column-index c.columns-declared.result.now c.loop-column-test.false ∙ c.columns-declared.ensures.columns))

pub returns : goal.returns
returns c =
    ap (λ (cs : List Column). let r : ColumnsValue = record { columns = cs; rows = rows_in c.in_ok-new-2.field-0 c.loop-column.columns.items c.args.slots; room = length c.in_ok-new-2.field-0 } in r)
    (ap columns_in (c.loop-column.invariant.made ∙ ap (λ (l : List Column). map made l) (take_all c.loop-column.column-index c.columns-declared.result.now c.loop-column-test.false ∙ c.columns-declared.ensures.columns)) ∙ new_names c.args.schema.now)
    ∙ ap (λ (rs : List (Option (List Cell))). let r : ColumnsValue = record { columns = columns_of c.args.schema.now; rows = rs; room = length c.in_ok-new-2.field-0 } in r) (new_rows c.in_ok-new-2.field-0 c.loop-column.columns.items c.args.slots c.in_ok-new-2.ensures)
    ∙ ap (λ (l : List Bool). let r : ColumnsValue = record { columns = columns_of c.args.schema.now; rows = replicate c.args.slots None; room = length l } in r) c.in_ok-new-2.ensures
