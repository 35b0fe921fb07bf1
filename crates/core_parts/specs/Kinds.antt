-- The kinds of columns, which say how their cells are laid out.
use Rattle.std.specs.Prelude.{List, map}
use Rattle.cell_model.specs.declared.column.Column.{Column}
use Rattle.cell_model.specs.declared.kind.Kind.{Kind}

abbrev pub kinds_of : List Column → List Kind
kinds_of columns = map (λ column. column.kind) columns
