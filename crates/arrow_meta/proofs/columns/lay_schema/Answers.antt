use Rattle.std.proofs.Common.{◌+◌, ◌*◌, ℕ, List, [], ◌∷◌, length, map, arith}
use Rattle.std.specs.Int.{w16}
use Rattle.arrow_spec.specs.Flatbuffers.{Field, Object, number, reference, vector_of_tables}
use Rattle.arrow_spec.specs.Metadata.{field_table}
use Rattle.arrow_meta.specs.Headers.{fields_of}
use Rattle.arrow_meta.specs.Laying.{IsLaid}
use Rattle.arrow_meta.proofs.FieldLemmas.{LaidTo, no_more, after_number, after_reference, table-is}
use Rattle.arrow_meta.proofs.columns.lay_schema.Goals as goal

pub returns : goal.returns
returns c =
    let tables : List Object = map field_table (fields_of c.args.encode c.args.columns.now) in
    let place : ℕ = c.in_ok-schema.schema in
    let fields : List Field = number 8 w16 0 ∷ reference 4 (vector_of_tables tables) ∷ [] in
    let listed : IsLaid (vector_of_tables tables) (64 + length c.args.columns.now * 66200) c.number.new.self c.lay_fields.new.build c.in_ok-fields.fields =
    c.in_ok-fields.ensures in
    let laid : LaidTo place c.table.new.self fields c.refer.new.self =
    after_number c.number.new.self c.number.ensures.written
    (after_reference c.lay_fields.new.build c.refer.new.self c.in_ok-fields.fields listed c.refer.ensures.written
    (no_more place c.refer.new.self)) in
    table-is c.args.build.now 10 4194304 fields place c.table.new.self c.refer.new.self
    (omega arith) (omega arith, (omega arith, tt)) c.in_ok-schema.ensures.place c.in_ok-schema.ensures.ok laid
    (omega (arith, c.in_ok-schema.ensures.len, c.in_ok-schema.ensures.place))
    (omega (arith, c.in_ok-schema.ensures.len, c.in_ok-schema.ensures.place))
