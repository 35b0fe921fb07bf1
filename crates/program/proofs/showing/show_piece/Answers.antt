use Rattle.std.proofs.Common.{◌∙◌, sym, subst, Option}
use Rattle.std.specs.Prelude.{IfSome}
use Rattle.std.specs.Io.KnownBytes.{Appends}
use Rattle.byte_ports.specs.Calls.{AppendsFront}
use Rattle.program.specs.Pieces.{PieceEnds}
use Rattle.program.specs.declared.status.Status.{Status}
use Rattle.program.proofs.Shown.{piece-goes-on, piece-in-part, piece-shown}
use Rattle.program.proofs.showing.show_piece.Goals as goal

pub returns-in-Ok-write_all-clause-goes_on : goal.returns-in-Ok-write_all-clause-goes_on
returns-in-Ok-write_all-clause-goes_on g c = λ before fed from none.
    let printed = g.O.Sink.written c.args.out.now in
    let now = g.O.Sink.written c.write_all.new.sink in
    piece-goes-on before printed now fed c.args.piece.now c.next.new.text.items c.args.showing.now
    c.next.new.self from c.in-Ok.stand (c.in-Ok.ensures.shows fed from.so)
    (subst (Appends printed now) c.as_slice.ensures.value c.in-Ok-write_all.ensures.bytes)
    (sym c.end_with.ensures ∙ none)

pub returns-in-Ok-write_all-clause-ends : goal.returns-in-Ok-write_all-clause-ends
returns-in-Ok-write_all-clause-ends g c = λ before fed from.
    let printed = g.O.Sink.written c.args.out.now in
    let now = g.O.Sink.written c.write_all.new.sink in
    let piece = c.args.piece.now in
    subst
    (λ (with : Option Status). IfSome with (λ ended. PieceEnds before fed piece ended now))
    (sym c.end_with.ensures)
    (piece-shown before printed now fed piece c.next.new.text.items c.args.showing.now
    c.next.new.self from c.in-Ok.stand (c.in-Ok.ensures.shows fed from.so)
    (subst (Appends printed now) c.as_slice.ensures.value c.in-Ok-write_all.ensures.bytes))

pub returns-in-Err-clause-ends : goal.returns-in-Err-clause-ends
returns-in-Err-clause-ends g c = λ before fed from.
    let printed = g.O.Sink.written c.args.out.now in
    let now = g.O.Sink.written c.write_all.new.sink in
    piece-in-part before printed now fed c.args.piece.now c.next.new.text.items c.args.showing.now
    c.next.new.self from c.in-Ok.stand (c.in-Ok.ensures.shows fed from.so)
    (subst (AppendsFront printed now) c.as_slice.ensures.value c.in-Err.ensures.bytes)
