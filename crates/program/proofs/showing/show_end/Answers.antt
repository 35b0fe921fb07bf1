use Rattle.std.proofs.Common.{sym, subst}
use Rattle.std.specs.Io.KnownBytes.{Appends}
use Rattle.byte_ports.specs.Calls.{AppendsFront}
use Rattle.program.specs.Pieces.{InputEnds}
use Rattle.program.specs.declared.status.Status.{Status}
use Rattle.program.proofs.Shown.{end-in-part, end-shown}
use Rattle.program.proofs.showing.show_end.Goals as goal

pub returns-in-Ok-write_all-clause-ends : goal.returns-in-Ok-write_all-clause-ends
returns-in-Ok-write_all-clause-ends g c = λ before fed from.
    let printed = g.O.Sink.written c.args.out.now in
    let now = g.O.Sink.written c.write_all.new.sink in
    subst (λ (ended : Status). InputEnds before fed ended now) (sym c.last_status.ensures)
    (end-shown before printed now fed c.end.new.text.items c.args.showing.now from c.in-Ok.fault
    (c.in-Ok.ensures fed from.so)
    (subst (Appends printed now) c.deref.ensures.value c.in-Ok-write_all.ensures.bytes))

pub returns-in-Err-clause-ends : goal.returns-in-Err-clause-ends
returns-in-Err-clause-ends g c = λ before fed from.
    let printed = g.O.Sink.written c.args.out.now in
    let now = g.O.Sink.written c.write_all.new.sink in
    end-in-part before printed now fed c.end.new.text.items c.args.showing.now from c.in-Ok.fault
    (c.in-Ok.ensures fed from.so)
    (subst (AppendsFront printed now) c.deref.ensures.value c.in-Err.ensures.bytes)
