-- The columns of a table as the fields of a schema.
use Rattle.std.specs.Prelude.{ℕ, if◌then◌else◌, List, map, Some, None}
use Rattle.std.specs.List.{enumerate_from}
use Rattle.cell_model.specs.declared.column.Column.{Column}
use Rattle.cell_model.specs.declared.kind.Kind.TheVariants.{I32}
use Rattle.arrow_spec.specs.Dictionaries.{is_encoded}
use Rattle.arrow_spec.specs.declared.fields.Encoding.{Encoding}
use Rattle.arrow_spec.specs.declared.fields.Field.{Field}

-- a column whose values stand in its buffers
abbrev pub plain_field : Column → Field
plain_field column = record { column = column; encoding = None }

abbrev pub plain_fields : List Column → List Field
plain_fields columns = map plain_field columns

-- the dictionary with this id, and signed indices of 32 bits
abbrev pub by_dictionary : ℕ → Encoding
by_dictionary id = record { id = id; indices = I32 }

-- the column at a place, which is its dictionary's id where it is encoded
abbrev pub encoded_field : ℕ × Column → Field
encoded_field (place, column) = record {
  column = column;
  encoding = if is_encoded column.kind then Some (by_dictionary place) else None;
}

-- Columns of which those of utf8 and binary values are encoded.
abbrev pub encoded_fields : List Column → List Field
encoded_fields columns = map encoded_field (enumerate_from 0 columns)
