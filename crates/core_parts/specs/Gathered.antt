-- What is kept with a gathered form.
use Rattle.std.specs.Prelude.{◌≡◌, ℕ, List}
use Rattle.block_columns.specs.Columns.{ColumnsValue}
use Rattle.block_columns.specs.Images.{FormValue, IsWhole, image_with}
use Rattle.cell_model.specs.declared.kind.Kind.{Kind}
use Rattle.core_parts.specs.Kinds.{kinds_of}

-- The form is that of the first slots of the columns, whose kinds are listed.
pub record IsKept (columns : ColumnsValue) (listed : List Kind) (rows : ℕ)
    (form : FormValue) : Type 0 where
  pub whole : IsWhole (image_with columns rows form)
  pub kinds : listed ≡ kinds_of columns.columns
