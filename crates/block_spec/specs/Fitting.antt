-- What a body's columns take. A body knows of a column what its cells have to keep, and not its
-- name.
use Rattle.std.specs.Prelude.{◌≡◌, ◌≢◌, List, [], None, map, All, AllPairs, IsSomeAnd, slice_get}
use Rattle.cell_model.specs.Rows.{Fits, cell_fault}
use Rattle.cell_model.specs.declared.column.Column.{Column}
use Rattle.block_spec.specs.declared.patch.Assignment.{Assignment}
use Rattle.block_spec.specs.declared.change.Before.{Before}
use Rattle.block_spec.specs.declared.change.Before.TheVariants as before
use Rattle.block_spec.specs.declared.change.Change.{Change}
use Rattle.block_spec.specs.declared.change.Change.TheVariants as change

-- a column without its name: its kind, and whether a value may be missing
abbrev pub unnamed : Column → Column
unnamed column = record column { name = [] }

-- the columns of a schema as a body knows them
abbrev pub columns_of : List Column → List Column
columns_of schema = map unnamed schema

-- the assignment is of a column that there is, and its cell keeps the column's rules
abbrev pub AssignmentFits : List Column → Assignment → Type 0
AssignmentFits columns assignment =
    IsSomeAnd (slice_get columns assignment.column)
    (λ column. cell_fault assignment.column column assignment.cell ≡ None)

-- Each assignment of a patch fits the columns, and no two are of one column.
pub record PatchFits (columns : List Column) (patch : List Assignment) : Type 0 where
  pub each : All (AssignmentFits columns) patch
  pub distinct : AllPairs (λ one other. one.column ≢ other.column) patch

-- what a change puts into a slot fits the columns
abbrev pub ChangeFits : List Column → Change → Type 0
ChangeFits columns (change.Put row) = Fits columns row
ChangeFits columns (change.Patch patch) = PatchFits columns patch
ChangeFits columns change.Gone = Unit {0}

-- what a before-image lays back fits the columns
abbrev pub BeforeFits : List Column → Before → Type 0
BeforeFits columns before.Empty = Unit {0}
BeforeFits columns (before.Whole row) = Fits columns row
BeforeFits columns (before.Part patch) = PatchFits columns patch
