use Rattle.std.proofs.Common.{◌+◌, ◌*◌, ℕ, ℤ, List, [], ◌∷◌, length, arith}
use Rattle.std.specs.Int.{w64}
use Rattle.arrow_spec.specs.Flatbuffers.{Field, number, reference, vector_of_pairs}
use Rattle.arrow_meta.specs.Laying.{IsLaid}
use Rattle.arrow_meta.proofs.FieldLemmas.{LaidTo, no_more, after_number, after_reference, table-is}
use Rattle.arrow_meta.proofs.batch.lay_record_batch.Goals as goal

pub returns : goal.returns
returns c =
    let nodes : List (ℤ × ℤ) = c.args.nodes.now in
    let buffers : List (ℤ × ℤ) = c.args.buffers.now in
    let place : ℕ = c.in_ok-batch.batch in
    let fields : List Field =
    number 8 w64 c.args.rows ∷ reference 4 (vector_of_pairs nodes) ∷ reference 16 (vector_of_pairs buffers) ∷ [] in
    let first : IsLaid (vector_of_pairs nodes) (11 + 16 * length nodes) c.number.new.self c.lay_pairs.new.build c.in_ok-first.first = c.in_ok-first.ensures in
    let second : IsLaid (vector_of_pairs buffers) (11 + 16 * length buffers) c.refer.new.self c.lay_pairs-2.new.build c.in_ok-second.second =
    c.in_ok-second.ensures in
    let laid : LaidTo place c.table.new.self fields c.refer-2.new.self =
    after_number c.number.new.self c.number.ensures.written
    (after_reference c.lay_pairs.new.build c.refer.new.self c.in_ok-first.first first c.refer.ensures.written
    (after_reference c.lay_pairs-2.new.build c.refer-2.new.self c.in_ok-second.second second c.refer-2.ensures.written
    (no_more place c.refer-2.new.self))) in
    table-is c.args.build.now 20 (128 + 16 * (length nodes + length buffers)) fields place c.table.new.self c.refer-2.new.self
    (omega arith) (omega arith, (omega arith, (omega arith, tt))) c.in_ok-batch.ensures.place c.in_ok-batch.ensures.ok laid
    (omega (arith, c.in_ok-batch.ensures.len, c.in_ok-batch.ensures.place))
    (omega (arith, c.in_ok-batch.ensures.len, c.in_ok-batch.ensures.place))
