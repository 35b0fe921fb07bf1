-- The message of a schema whose utf8 and binary columns are encoded reads as its fields.
use Rattle.std.proofs.Common.{◌≡◌, ℕ, ◌+◌, ◌-◌, ◌*◌, ◌^◌, ◌<◌, ◌≤◌, Bool, true, false, List, [], ◌∷◌, length, map, refl, subst, arith, ap, ◌∙◌, Result, Ok}
use Rattle.std.specs.Int.{next_multiple_of}
use Rattle.std.specs.List.{All}
use Rattle.std.proofs.lemmas.List.{length-map}
use Rattle.std.proofs.lemmas.List.Elements.{All-head, All-tail}
use Rattle.cell_model.specs.Schemas.{IsName}
use Rattle.cell_model.specs.Widths.{most_bytes}
use Rattle.cell_model.specs.declared.column.Column.{Column}
use Rattle.arrow_spec.specs.Bytes.{padded}
use Rattle.arrow_spec.specs.Dictionaries.{is_encoded}
use Rattle.arrow_spec.specs.Fields.{by_dictionary, encoded_fields}
use Rattle.arrow_spec.specs.Flatbuffers.{Object, references, string, vector_of_tables}
use Rattle.arrow_spec.specs.Metadata.{Header, encoding_table, field_table, field_table_of, flatbuffer_of, schema, schema_table, table_of_type, type_of}
use Rattle.arrow_spec.specs.declared.types.ArrowType.TheVariants.{SignedInt}
use Rattle.stream_spec.specs.Streams.{SchemaRead}
use Rattle.stream_spec.specs.declared.fault.Cause.{Cause}
use Rattle.stream_spec.specs.declared.message.HeadKind.TheVariants as kind
use Rattle.stream_laws.specs.Laws.{DictSchemaIsRead}
use Rattle.stream_laws.proofs.DictFields.{encoded_column_fields, encoded_from, encoded_schema_fields, encoded-schema-read, encoded-schema-there, encoding_by, encoding_fields, length-encoded}
use Rattle.stream_laws.proofs.Frames.{head-found, length-message, length-padded, message-framed, padded-message}
use Rattle.stream_laws.proofs.Messages.{HasMessage, header-there, message_fields, table-behind}
use Rattle.stream_laws.proofs.Sizes.{AddsAtMost, LeadTo, field-short, string-short, table-short, tables-short, type-short}

-- ---- sizes

-- how many bytes a field adds at most
abbrev most_of_either : ℕ
most_of_either = 65713

-- The field of a column with a short enough name adds at most so many bytes, encoded or not.
either-short : (encoded : Bool) (id : ℕ) (column : Column) → length column.name ≤ most_bytes
    → AddsAtMost (field_table_of column (encoding_by encoded id)) most_of_either
either-short true id column short end =
    let name : AddsAtMost (string column.name) 65547 =
    λ at. (let all = string-short column.name at in omega arith) in
    let indices : AddsAtMost (table_of_type (SignedInt 32)) 31 = type-short (SignedInt 32) in
    let encoding : AddsAtMost (encoding_table (by_dictionary id)) 72 =
    table-short 17 31 (encoding_fields id) (record { apart = refl; fit = refl })
    (31, (indices, omega arith, tt)) in
    let none = tables-short 0 [] tt in
    table-short 22 65661 (encoded_column_fields id column) (record { apart = refl; fit = refl }) (
      65547,
      (
        name,
        omega arith,
        (
          31,
          (
            type-short (type_of column.kind),
            omega arith,
            (72, (encoding, omega arith, (11, (none, omega arith, tt)))),
          ),
        ),
      ),
    ) end
either-short false id column short end =
    let all = field-short column short end in omega arith

-- The references to the fields of columns lead to at most so many bytes for each.
encoded-lead : (from k : ℕ) (columns : List Column) → All IsName columns
    → LeadTo (most_of_either * length columns) (references from (map field_table (encoded_from k columns)))
encoded-lead from k [] named = tt
encoded-lead from k (column ∷ columns) named =
    let P : ℕ → Type 0 =
    λ n. LeadTo n (references (from + 4) (map field_table (encoded_from (k + 1) columns))) in
    let left : most_of_either * length columns
    ≡ most_of_either * length (column ∷ columns) - most_of_either = omega arith in (
      most_of_either,
      (
        either-short (is_encoded column.kind) k column (All-head IsName column columns named).1,
        omega arith,
        subst P left (encoded-lead (from + 4) (k + 1) columns (All-tail IsName column columns named)),
      ),
    )

-- the metadata of columns with names has at most so many bytes
encoded-schema-short : (columns : List Column) → All IsName columns
    → length (flatbuffer_of (schema (encoded_from 0 columns)) 0) ≤ 97 + 65717 * length columns
encoded-schema-short columns named =
    let tables : List Object = map field_table (encoded_from 0 columns) in
    let count : length tables ≡ length columns =
    length-map (encoded_from 0 columns) field_table ∙ length-encoded 0 columns in
    let leads : ℕ = most_of_either * length columns in
    let vector : ℕ = 11 + 4 * length tables + leads in
    let vector_adds : AddsAtMost (vector_of_tables tables) vector =
    tables-short leads tables (encoded-lead 4 0 columns named) in
    let one : ℕ = 18 + 2 * 2 + 10 + vector in
    let schema_adds : AddsAtMost (schema_table (encoded_from 0 columns)) one =
    table-short 10 vector (encoded_schema_fields columns) (record { apart = refl; fit = refl })
    (vector, (vector_adds, omega arith, tt)) in
    let message =
    table-short 20 one (message_fields (schema (encoded_from 0 columns)) 0)
    (record { apart = refl; fit = refl }) (one, (schema_adds, omega arith, tt)) 8 in
    omega arith

-- ---- the message

-- The message reads as its fields, whatever follows it.
pub dict_schema_is_read : DictSchemaIsRead
dict_schema_is_read columns rest told =
    let header : Header = schema (encoded_fields columns) in
    let laid : List ℕ = flatbuffer_of header 0 in
    let metadata : List ℕ = padded laid in
    let short = encoded-schema-short columns told.named.each in
    let long : length metadata ≡ next_multiple_of (length laid) 8 = length-padded laid in
    let small : length metadata < 2 ^ 31 = omega (arith, told.few) in
    let has : HasMessage metadata header 0 = padded-message header 0 in
    let table = header-there metadata header 0 has in
    let there = encoded-schema-there metadata 44 columns table in
    let frame = message-framed true laid [] rest (omega (arith, there.inside)) small in
    let head = head-found metadata rest header kind.Schema true 0 refl refl has
    (omega (arith, table-behind 44 10 (encoded_schema_fields columns)))
    (omega (arith, there.inside)) (omega arith) (omega arith) in
    let found =
    encoded-schema-read metadata 44 columns small told.some told.few told.named.each table in
    let size = length-message laid [] in
    let answer : ℕ → Result SchemaRead Cause =
    λ n. Ok (record { fields = encoded_fields columns; size = n }) in
    rw (frame, head, found) (ap answer (omega arith))
