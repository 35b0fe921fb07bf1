-- What a message is, as it is laid.
use Rattle.std.specs.Prelude.{ℕ, ◌+◌, ◌*◌, ◌^◌, ◌<◌, ◌≤◌, Bool, true, false, List, length, map}
use Rattle.std.specs.Prelude.{All}
use Rattle.std.specs.List.{enumerate_from}
use Rattle.cell_model.specs.Schemas.{IsName}
use Rattle.cell_model.specs.declared.column.Column.{Column}
use Rattle.arrow_spec.specs.Fields.{encoded_field, plain_field}
use Rattle.arrow_spec.specs.Metadata.{Header, dictionary_batch, record_batch, schema}
use Rattle.arrow_spec.specs.declared.fields.Field.{Field}
use Rattle.arrow_meta.specs.declared.headers.Header.{Header as Given}
use Rattle.arrow_meta.specs.declared.headers.Header.TheVariants as given

-- the column at a place as a field, encoded where columns are to be and this one can be
abbrev pub field_of : Bool → ℕ × Column → Field
field_of true placed = encoded_field placed
field_of false placed = plain_field placed.1

abbrev pub fields_of : Bool → List Column → List Field
fields_of encode columns = map (field_of encode) (enumerate_from 0 columns)

-- the header that is to be laid
abbrev pub header_of : Given → Header
header_of (given.Schema columns encode) = schema (fields_of encode columns.now)
header_of (given.RecordBatch rows nodes buffers) = record_batch rows nodes.now buffers.now
header_of (given.DictionaryBatch id rows nodes buffers) = dictionary_batch id rows nodes.now
    buffers.now

-- its metadata has room: there are few columns with short names, or few nodes and buffers
abbrev pub IsLayable : Given → Type 0
IsLayable (given.Schema columns encode) = (length columns.now ≤ 32) × All IsName columns.now
IsLayable (given.RecordBatch rows nodes buffers) = length nodes.now + length buffers.now < 2 ^ 26
IsLayable (given.DictionaryBatch id rows nodes buffers) = length nodes.now + length buffers.now
    < 2 ^ 26

-- how many bytes it has at most
abbrev pub most_of : Given → ℕ
most_of (given.Schema columns encode) = 2 ^ 22
most_of (given.RecordBatch rows nodes buffers) = 128 + 16 * (length nodes.now + length buffers.now)
most_of (given.DictionaryBatch id rows nodes buffers) =
    256 + 16 * (length nodes.now + length buffers.now)
