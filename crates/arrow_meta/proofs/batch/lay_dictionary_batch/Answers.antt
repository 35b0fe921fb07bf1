use Rattle.std.proofs.Common.{◌+◌, ◌*◌, ℕ, ℤ, List, [], ◌∷◌, length, arith}
use Rattle.std.specs.Int.{w8, w64}
use Rattle.arrow_spec.specs.Flatbuffers.{Field, number, reference}
use Rattle.arrow_spec.specs.Metadata.{record_batch_table}
use Rattle.arrow_meta.specs.Laying.{IsLaid}
use Rattle.arrow_meta.proofs.FieldLemmas.{LaidTo, no_more, after_number, after_reference, table-is}
use Rattle.arrow_meta.proofs.batch.lay_dictionary_batch.Goals as goal

pub returns : goal.returns
returns c =
    let nodes : List (ℤ × ℤ) = c.args.nodes.now in
    let buffers : List (ℤ × ℤ) = c.args.buffers.now in
    let place : ℕ = c.in_ok-dictionary.dictionary in
    let fields : List Field =
    number 8 w64 c.args.id ∷ reference 4 (record_batch_table c.args.rows nodes buffers) ∷ number 16 w8 0 ∷ [] in
    let values : IsLaid (record_batch_table c.args.rows nodes buffers) (128 + 16 * (length nodes + length buffers)) c.number.new.self c.lay_record_batch.new.build c.in_ok-batch.batch =
    c.in_ok-batch.ensures in
    let laid : LaidTo place c.table.new.self fields c.number-2.new.self =
    after_number c.number.new.self (cc (c.number.ensures.written, c.from.ensures))
    (after_reference c.lay_record_batch.new.build c.refer.new.self c.in_ok-batch.batch values c.refer.ensures.written
    (after_number c.number-2.new.self c.number-2.ensures.written
    (no_more place c.number-2.new.self))) in
    table-is c.args.build.now 17 (256 + 16 * (length nodes + length buffers)) fields place c.table.new.self c.number-2.new.self
    (omega arith) (omega arith, (omega arith, (omega arith, tt))) c.in_ok-dictionary.ensures.place c.in_ok-dictionary.ensures.ok laid
    (omega (arith, c.in_ok-dictionary.ensures.len, c.in_ok-dictionary.ensures.place))
    (omega (arith, c.in_ok-dictionary.ensures.len, c.in_ok-dictionary.ensures.place))
