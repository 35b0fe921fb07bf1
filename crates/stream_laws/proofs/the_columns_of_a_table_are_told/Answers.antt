use Rattle.std.proofs.Common.{◌≡◌, ◌<◌, true, List, [], ◌∷◌, length, arith}
use Rattle.cell_model.specs.Schemas.{begins_with_key}
use Rattle.cell_model.specs.declared.column.Column.{Column}
use Rattle.stream_laws.proofs.the_columns_of_a_table_are_told.Goals as goal

some-columns : (columns : List Column) → begins_with_key columns ≡ true → 0 < length columns
some-columns [] key = absurd (cc)
some-columns (column ∷ columns) key = omega arith

pub returns : goal.returns
returns c =
    λ columns is. record {
      some = some-columns columns is.key;
      few = omega (arith, is.few);
      named =
          is.named;
    }
