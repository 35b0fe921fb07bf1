-- A row that fits a table's columns fits the table.
use Rattle.std.proofs.Common.{◌≡◌, ℕ, List, [], Option, None, Some, option_map, unwrap_or, subst}
use Rattle.std.specs.Prelude.{IfSome, slice_get}
use Rattle.block_spec.specs.Slots.{Row}
use Rattle.cell_model.specs.declared.column.Column.{Column}
use Rattle.cell_model.specs.declared.table.TableDecl.{TableDecl}
use Rattle.cell_model.specs.Rows.{Fits, row_fault}
use Rattle.event_spec.specs.Lawful.{FitsTable}
use Rattle.event_spec.specs.Parts.{Shape}
use Rattle.event_spec.specs.Replay.{columns_in}

pub fits_there : (shape : Shape) (t : ℕ) (row : Row) (columns : List Column) → columns ≡ columns_in shape t → row_fault columns row ≡ None → FitsTable shape t row
fits_there shape t row columns are none = go (slice_get shape.tables t) are
  where
    go : (o : Option TableDecl) → columns ≡ unwrap_or (option_map (λ (decl : TableDecl). decl.schema) o) [] → IfSome o (λ decl. Fits decl.schema row)
    go None is = tt
    go (Some decl) is = subst (λ (cs : List Column). row_fault cs row ≡ None) is none
