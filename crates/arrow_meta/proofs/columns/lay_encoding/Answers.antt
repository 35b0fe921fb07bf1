use Rattle.std.proofs.Common.{ℕ, List, [], ◌∷◌, arith}
use Rattle.std.specs.Int.{w8, w64}
use Rattle.arrow_spec.specs.Flatbuffers.{Field, number, reference}
use Rattle.arrow_spec.specs.Metadata.{int_table}
use Rattle.arrow_meta.specs.Laying.{IsLaid}
use Rattle.arrow_meta.proofs.FieldLemmas.{LaidTo, no_more, after_number, after_reference, table-is}
use Rattle.arrow_meta.proofs.columns.lay_encoding.Goals as goal

pub returns : goal.returns
returns c =
    let place : ℕ = c.in_ok-encoding.encoding in
    let fields : List Field = number 8 w64 c.args.id ∷ reference 4 (int_table 32 1) ∷ number 16 w8 0 ∷ [] in
    let index : IsLaid (int_table 32 1) 64 c.number.new.self c.lay_int.new.build c.in_ok-index.index = c.in_ok-index.ensures in
    let laid : LaidTo place c.table.new.self fields c.number-2.new.self =
    after_number c.number.new.self (cc (c.number.ensures.written, c.from.ensures))
    (after_reference c.lay_int.new.build c.refer.new.self c.in_ok-index.index index c.refer.ensures.written
    (after_number c.number-2.new.self c.number-2.ensures.written
    (no_more place c.number-2.new.self))) in
    table-is c.args.build.now 17 128 fields place c.table.new.self c.number-2.new.self
    (omega arith) (omega arith, (omega arith, (omega arith, tt))) c.in_ok-encoding.ensures.place c.in_ok-encoding.ensures.ok laid
    (omega (arith, c.in_ok-encoding.ensures.len, c.in_ok-encoding.ensures.place))
    (omega (arith, c.in_ok-encoding.ensures.len, c.in_ok-encoding.ensures.place))
