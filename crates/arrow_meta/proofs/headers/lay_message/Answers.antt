use Rattle.std.proofs.Common.{◌≡◌, ◌+◌, ℕ, List, [], ◌∷◌, arith}
use Rattle.std.specs.Int.{w8, w16, w64, to_le_bytes}
use Rattle.flat_build.specs.Layout.{overwritten}
use Rattle.arrow_spec.specs.Flatbuffers.{Field, number, reference}
use Rattle.arrow_spec.specs.Metadata.{Header, header_number, header_table}
use Rattle.arrow_meta.specs.Headers.{header_of, most_of}
use Rattle.arrow_meta.specs.Laying.{IsLaid}
use Rattle.arrow_meta.proofs.FieldLemmas.{LaidTo, no_more, after_number, after_reference, table-is}
use Rattle.arrow_meta.proofs.headers.lay_message.Goals as goal

pub returns : goal.returns
returns c =
    let header : Header = header_of c.args.header.now in
    let place : ℕ = c.in_ok-message.message in
    let fields : List Field =
    number 16 w16 4 ∷ number 18 w8 (header_number header) ∷ reference 4 (header_table header) ∷ number 8 w64 c.args.body ∷ [] in
    let numbered : c.number-2.new.self ≡ overwritten c.number.new.self (place + 18) (to_le_bytes w8 (header_number header)) =
    cc (c.number-2.ensures.written, c.number_of.ensures.value) in
    let table : IsLaid (header_table header) (most_of c.args.header.now) c.number-2.new.self c.lay_header.new.build c.in_ok-table.table =
    c.in_ok-table.ensures in
    let laid : LaidTo place c.table.new.self fields c.number-3.new.self =
    after_number c.number.new.self c.number.ensures.written
    (after_number c.number-2.new.self numbered
    (after_reference c.lay_header.new.build c.refer.new.self c.in_ok-table.table table c.refer.ensures.written
    (after_number c.number-3.new.self c.number-3.ensures.written
    (no_more place c.number-3.new.self)))) in
    table-is c.args.build.now 20 (120 + most_of c.args.header.now) fields place c.table.new.self c.number-3.new.self
    (omega arith) (omega arith, (omega arith, (omega arith, (omega arith, tt)))) c.in_ok-message.ensures.place c.in_ok-message.ensures.ok laid
    (omega (arith, c.in_ok-message.ensures.len, c.in_ok-message.ensures.place, table.behind, table.within))
    (omega (arith, c.in_ok-message.ensures.len, c.in_ok-message.ensures.place, table.short))
