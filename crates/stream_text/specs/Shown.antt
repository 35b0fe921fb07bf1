-- The text of a stream: its schema and its rows, line by line.
use Rattle.std.specs.Prelude.{ℕ, List, [], ◌∷◌, ◌++◌, map, flat_map, length, codes, decimal, Option}
use Rattle.std.specs.Prelude.{None, Some, if◌then◌else◌}
use Rattle.cell_model.specs.declared.cell.Cell.{Cell}
use Rattle.cell_model.specs.declared.column.Column.{Column}
use Rattle.arrow_spec.specs.declared.fields.Field.{Field}
use Rattle.stream_spec.specs.Streams.{Reading}
use Rattle.stream_spec.specs.declared.fault.Cause.{Cause}
use Rattle.stream_spec.specs.declared.fault.Cause.TheVariants as cause
use Rattle.stream_spec.specs.declared.fault.StreamFault.{StreamFault}
use Rattle.workload_spec.specs.ReplyText.{row_line}
use Rattle.workload_spec.specs.ScriptText.{kind_text}
use Rattle.workload_spec.specs.Words.{lines_text, quoted, spaced}

-- the word of a cause
abbrev pub cause_text : Cause → List ℕ
cause_text cause.Short = codes "Short"
cause_text cause.Marker = codes "Marker"
cause_text cause.Flat = codes "Flat"
cause_text cause.Version = codes "Version"
cause_text cause.Dictionary = codes "Dictionary"
cause_text cause.Kind = codes "Kind"
cause_text cause.Shape = codes "Shape"
cause_text cause.Endian = codes "Endian"
cause_text cause.Utf8 = codes "Utf8"
cause_text cause.Compressed = codes "Compressed"
cause_text cause.Buffer = codes "Buffer"
cause_text cause.NullCount = codes "NullCount"
cause_text cause.Offsets = codes "Offsets"

-- a column: its name as a text's cell, a colon, its kind, and a question mark where it is nullable
abbrev pub column_text : Column → List ℕ
column_text column = quoted column.name ++ codes ":" ++ kind_text column.kind
    ++ (if column.nullable then codes "?" else [])

-- the columns of fields, each of the kind of its values
abbrev pub field_columns : List Field → List Column
field_columns fields = map (λ field. field.column) fields

-- the line of the columns
abbrev pub schema_line : List Column → List ℕ
schema_line columns = spaced (codes "schema" ∷ map column_text columns)

-- the lines in front of the last: that of the columns, where a schema is read, and one for each row
abbrev pub front_lines : Option (List Column) → List (List Cell) → List (List ℕ)
front_lines None rows = []
front_lines (Some columns) rows = schema_line columns ∷ map row_line rows

-- the last line: how many rows there are, or the first fault
abbrev pub last_line : ℕ → Option StreamFault → List ℕ
last_line count None = spaced (codes "rows" ∷ decimal count ∷ [])
last_line count (Some fault) = spaced
    (codes "not" ∷ codes "a" ∷ codes "stream" ∷ codes "at" ∷ decimal fault.place ∷ cause_text
    fault.cause ∷ [])

-- the rows of all batches, in their order
abbrev pub all_rows : List (List (List Cell)) → List (List Cell)
all_rows batches = flat_map (λ rows. rows) batches

-- the text of all lines but the last
abbrev pub front_text : Reading → List ℕ
front_text reading = lines_text (front_lines reading.schema (all_rows reading.batches))

-- the text of what is read of a stream
abbrev pub shown_text : Reading → List ℕ
shown_text reading = lines_text
    (front_lines reading.schema (all_rows reading.batches)
    ++ last_line (length (all_rows reading.batches)) reading.fault ∷ [])
