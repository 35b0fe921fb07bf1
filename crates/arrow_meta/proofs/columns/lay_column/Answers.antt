use Rattle.std.proofs.Common.{◌≡◌, ◌+◌, ◌++◌, ℕ, List, length, ap, subst, sym, arith}
use Rattle.std.specs.Int.{w8, from_bool, to_le_bytes}
use Rattle.cell_model.specs.declared.column.Column.{Column}
use Rattle.flat_build.specs.Layout.{overwritten}
use Rattle.arrow_spec.specs.Flatbuffers.{Field, string}
use Rattle.arrow_spec.specs.Metadata.{number_of_type, table_of_type, type_of}
use Rattle.arrow_spec.specs.declared.types.ArrowType.{ArrowType}
use Rattle.arrow_meta.specs.Laying.{IsLaid, column_fields, laid_fields}
use Rattle.arrow_meta.proofs.FieldLemmas.{LaidTo, after_number, after_reference, string-is, rest-laid}
use Rattle.arrow_meta.proofs.columns.lay_column.Goals as goal

pub returns : goal.returns
returns c =
    let column : Column = c.args.column.now in
    let place : ℕ = c.args.field in
    let nullable : ℕ = c.args.nullable in
    let old : List ℕ = c.args.build.now in
    let named : IsLaid (string column.name) (12 + length column.name) old c.string.new.self c.in_ok-name.name =
    string-is old column.name c.string.new.self c.in_ok-name.name
    c.in_ok-name.ensures.place
    (cc (c.in_ok-name.ensures.ok, c.as_slice.ensures))
    (cc (c.in_ok-name.ensures.len, c.as_slice.ensures)) in
    let missing : c.number.new.self ≡ overwritten c.refer.new.self (place + nullable) (to_le_bytes w8 (from_bool column.nullable)) =
    cc (c.number.ensures.written, c.from.ensures) in
    let typed : c.number-2.new.self ≡ overwritten c.number.new.self (place + (nullable + 1)) (to_le_bytes w8 (number_of_type (type_of column.kind))) =
    let told = ap number_of_type c.type_of-arrow_type.ensures.value in cc (c.number-2.ensures.written, c.number_of_type.ensures.value, told) in
    let kinded : IsLaid (table_of_type (type_of column.kind)) 64 c.number-2.new.self c.lay_type.new.build c.in_ok-table.table =
    subst (λ (t : ArrowType). IsLaid (table_of_type t) 64 c.number-2.new.self c.lay_type.new.build c.in_ok-table.table) c.type_of-arrow_type.ensures.value c.in_ok-table.ensures in
    let last : List ℕ = c.refer-2.new.self in
    record {
      laid = λ (fields : List Field).
          let all : LaidTo place old (column_fields nullable column ++ fields) (laid_fields place last fields) =
          after_reference c.string.new.self c.refer.new.self c.in_ok-name.name named c.refer.ensures.written
          (after_number c.number.new.self missing
          (after_number c.number-2.new.self typed
          (after_reference c.lay_type.new.build last c.in_ok-table.table kinded c.refer-2.ensures.written
          (rest-laid place last fields)))) in
          sym all.is;
      kept = omega (arith, c.in_ok-name.ensures.len, c.as_slice.ensures, kinded.behind, kinded.within, named.short, named.behind, named.within);
      short = omega (arith, named.short, kinded.short, c.requires.name);
    }
