-- What holds of all readings of logs.
use Rattle.std.specs.Prelude.{◌≡◌, ℕ, List}
use Rattle.cell_model.specs.declared.table.TableDecl.{TableDecl}
use Rattle.isolation_spec.specs.Contents.{History}
use Rattle.log_spec.specs.Laws.{HaveSchemas}
use Rattle.commit_log.specs.Readings.{ReadsAs}
use Rattle.commit_log.specs.declared.reading.LogEnd.{LogEnd}

-- Bytes read as one list of commits at most, with one end.
abbrev pub OneReading : Type 0
OneReading = (tables : List TableDecl) (bytes : List ℕ) (commits others : History)
    (end other : LogEnd) → HaveSchemas tables
    → ReadsAs tables bytes commits end → ReadsAs tables bytes others other
    → (commits ≡ others) × (end ≡ other)
