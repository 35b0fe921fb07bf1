-- The message of a schema reads as its columns.
use Rattle.std.proofs.Common.{◌≡◌, ℕ, ◌^◌, ◌<◌, true, List, [], length, refl, ap, arith, Result, Ok}
use Rattle.std.specs.Int.{next_multiple_of}
use Rattle.arrow_spec.specs.Bytes.{padded}
use Rattle.arrow_spec.specs.Fields.{plain_fields}
use Rattle.arrow_spec.specs.Metadata.{schema, flatbuffer_of}
use Rattle.stream_spec.specs.declared.message.HeadKind.TheVariants as kind
use Rattle.stream_spec.specs.Streams.{SchemaRead}
use Rattle.stream_laws.specs.Laws.{SchemaIsRead}
use Rattle.stream_laws.proofs.Messages.{HasMessage, table-behind, header-there}
use Rattle.stream_laws.proofs.Schemas.{schema_fields, schema-there, schema-read}
use Rattle.stream_laws.proofs.Sizes.{schema-short}
use Rattle.stream_laws.proofs.Frames.{message-framed, length-message, length-padded, padded-message, head-found}

-- A schema's message reads as its columns, whatever follows it.
pub schema_is_read : SchemaIsRead
schema_is_read columns rest told =
    let metadata : List ℕ = padded (flatbuffer_of (schema (plain_fields columns)) 0) in
    let short = schema-short columns told.named.each in
    let long : length metadata ≡ next_multiple_of (length (flatbuffer_of (schema (plain_fields columns)) 0)) 8 =
    length-padded (flatbuffer_of (schema (plain_fields columns)) 0) in
    let small : length metadata < 2 ^ 31 = omega (arith, told.few) in
    let has : HasMessage metadata (schema (plain_fields columns)) 0 = padded-message (schema (plain_fields columns)) 0 in
    let laid = header-there metadata (schema (plain_fields columns)) 0 has in
    let there = schema-there metadata 44 columns laid in
    let frame =
    message-framed true (flatbuffer_of (schema (plain_fields columns)) 0) [] rest (omega (arith, there.inside))
    small in
    let head =
    head-found metadata rest (schema (plain_fields columns)) kind.Schema true 0 refl refl has
    (omega (arith, table-behind 44 10 (schema_fields columns))) (omega (arith, there.inside))
    (omega arith) (omega arith) in
    let found = schema-read metadata 44 columns small told.some told.named.each laid in
    let size = length-message (flatbuffer_of (schema (plain_fields columns)) 0) [] in
    let answer : ℕ → Result SchemaRead _ = λ n. Ok (record { fields = plain_fields columns; size = n }) in
    rw (frame, head, found) (ap answer (omega arith))
