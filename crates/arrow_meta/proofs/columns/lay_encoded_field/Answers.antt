use Rattle.std.proofs.Common.{◌++◌, ℕ, List, [], ◌∷◌, arith}
use Rattle.cell_model.specs.declared.column.Column.{Column}
use Rattle.arrow_spec.specs.Fields.{by_dictionary}
use Rattle.arrow_spec.specs.Flatbuffers.{Field, reference, vector_of_tables}
use Rattle.arrow_spec.specs.Metadata.{encoding_table}
use Rattle.arrow_meta.specs.Laying.{BeginsWith, IsLaid, column_fields}
use Rattle.arrow_meta.proofs.FieldLemmas.{LaidTo, EndBy, no_more, after_front, after_reference, table-is, no-tables}
use Rattle.arrow_meta.proofs.columns.lay_encoded_field.Goals as goal

pub returns : goal.returns
returns c =
    let column : Column = c.args.column.now in
    let place : ℕ = c.in_ok-field.field in
    let front : List Field = column_fields 20 column in
    let fields : List Field =
    front ++ reference 12 (encoding_table (by_dictionary c.args.id)) ∷ reference 16 (vector_of_tables []) ∷ [] in
    let begun : BeginsWith place front 65700 c.table.new.self c.lay_column.new.build = c.in_ok-lay_column.ensures in
    let encoded : IsLaid (encoding_table (by_dictionary c.args.id)) 128 c.lay_column.new.build c.lay_encoding.new.build c.in_ok-encoding.encoding =
    c.in_ok-encoding.ensures in
    let childless : IsLaid (vector_of_tables []) 11 c.refer.new.self c.vector.new.self c.in_ok-children.children =
    no-tables c.refer.new.self c.vector.new.self c.in_ok-children.children
    c.in_ok-children.ensures.place c.in_ok-children.ensures.ok c.in_ok-children.ensures.len in
    let laid : LaidTo place c.table.new.self fields c.refer-2.new.self =
    after_front c.lay_column.new.build begun
    (after_reference c.lay_encoding.new.build c.refer.new.self c.in_ok-encoding.encoding encoded c.refer.ensures.written
    (after_reference c.vector.new.self c.refer-2.new.self c.in_ok-children.children childless c.refer-2.ensures.written
    (no_more place c.refer-2.new.self))) in
    let ends : EndBy 22 fields = (omega arith, (omega arith, (omega arith, (omega arith, (omega arith, (omega arith, tt)))))) in
    table-is c.args.build.now 22 66000 fields place c.table.new.self c.refer-2.new.self
    (omega arith) ends c.in_ok-field.ensures.place c.in_ok-field.ensures.ok laid
    (omega (arith, c.in_ok-field.ensures.len, c.in_ok-field.ensures.place, begun.kept, encoded.behind, encoded.within, childless.within, childless.behind))
    (omega (arith, c.in_ok-field.ensures.len, c.in_ok-field.ensures.place, begun.short, encoded.short, childless.short))
