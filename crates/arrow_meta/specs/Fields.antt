-- What the table of a field says, as the reader has it.
use Rattle.arrow_meta.specs.declared.schemas.FieldTable.{FieldTable}
use Rattle.stream_spec.specs.Metadata.{FieldTable as Table}

-- the table that was read
abbrev pub table_of : FieldTable → Table
table_of field = record {
  name = field.name.now;
  nullable = field.nullable;
  type_place = field.type_place;
  encoding = field.encoding;
  children = field.children;
  type' = field.arrow_type;
}
