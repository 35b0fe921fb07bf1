use Rattle.std.proofs.Common.{◌++◌, ℕ, List, [], ◌∷◌, arith}
use Rattle.cell_model.specs.declared.column.Column.{Column}
use Rattle.arrow_spec.specs.Flatbuffers.{Field, reference, absent, vector_of_tables}
use Rattle.arrow_meta.specs.Laying.{BeginsWith, IsLaid, column_fields}
use Rattle.arrow_meta.proofs.FieldLemmas.{LaidTo, EndBy, no_more, after_front, after_reference, after_absent, table-is, no-tables}
use Rattle.arrow_meta.proofs.columns.lay_plain_field.Goals as goal

pub returns : goal.returns
returns c =
    let column : Column = c.args.column.now in
    let place : ℕ = c.in_ok-field.field in
    let front : List Field = column_fields 16 column in
    let fields : List Field = front ++ absent ∷ reference 12 (vector_of_tables []) ∷ [] in
    let begun : BeginsWith place front 65700 c.table.new.self c.lay_column.new.build = c.in_ok-lay_column.ensures in
    let childless : IsLaid (vector_of_tables []) 11 c.lay_column.new.build c.vector.new.self c.in_ok-children.children =
    no-tables c.lay_column.new.build c.vector.new.self c.in_ok-children.children
    c.in_ok-children.ensures.place c.in_ok-children.ensures.ok c.in_ok-children.ensures.len in
    let laid : LaidTo place c.table.new.self fields c.refer.new.self =
    after_front c.lay_column.new.build begun
    (after_absent
    (after_reference c.vector.new.self c.refer.new.self c.in_ok-children.children childless c.refer.ensures.written
    (no_more place c.refer.new.self))) in
    let ends : EndBy 18 fields = (omega arith, (omega arith, (omega arith, (omega arith, (omega arith, (omega arith, tt)))))) in
    table-is c.args.build.now 18 66000 fields place c.table.new.self c.refer.new.self
    (omega arith) ends c.in_ok-field.ensures.place c.in_ok-field.ensures.ok laid
    (omega (arith, c.in_ok-field.ensures.len, c.in_ok-field.ensures.place, begun.kept, childless.within, childless.behind))
    (omega (arith, c.in_ok-field.ensures.len, c.in_ok-field.ensures.place, begun.short, childless.short))
