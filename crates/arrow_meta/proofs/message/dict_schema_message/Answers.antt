use Rattle.std.proofs.Common.{◌≡◌, ◌∙◌, List, ap, subst}
use Rattle.std.specs.Prelude.{IfOk}
use Rattle.arrow_spec.specs.Fields.{encoded_fields}
use Rattle.arrow_spec.specs.Metadata.{flatbuffer_of, schema}
use Rattle.arrow_spec.specs.declared.fields.Field.{Field}
use Rattle.arrow_meta.proofs.HeaderLemmas.{encoded-are, schema-layable}
use Rattle.arrow_meta.proofs.message.dict_schema_message.Goals as goal

pub flatbuffer-requires : goal.flatbuffer-requires
flatbuffer-requires c = schema-layable c.columns.result.now c.args.schema.now c.columns.ensures.columns c.columns.ensures.schema

pub returns-clause-bytes : goal.returns-clause-bytes
returns-clause-bytes c =
    subst
    (λ (fields : List Field). IfOk c.flatbuffer.result (λ bytes. bytes ≡ flatbuffer_of (schema fields) 0))
    (encoded-are 0 c.columns.result.now ∙ ap encoded_fields c.columns.ensures.columns)
    c.flatbuffer.ensures.bytes
