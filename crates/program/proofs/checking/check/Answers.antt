use Rattle.std.proofs.Common.{◌≡◌, ◌<◌, ◌^◌, ℕ, List, length, vec_len, subst, arith}
use Rattle.program.specs.Verdict.{VerdictEnds}
use Rattle.program.proofs.Judged.{judged_ends}
use Rattle.program.proofs.checking.check.Goals as goal

pub returns-in-Ok-parse_apart-clause-ends : goal.returns-in-Ok-parse_apart-clause-ends
returns-in-Ok-parse_apart-clause-ends g c = λ exported started.
    let bytes = c.in-Ok.bytes in
    let script = c.in-Ok-parse_apart.script in
    let below = c.in-Ok.ensures.short in
    let long : vec_len bytes ≡ length bytes.items = bytes.ok.0 in
    let short : length bytes.items < 2 ^ 32 = omega (arith, below, long) in
    judged_ends c.tell_verdict.result script c.in-Ok-parse_apart.output.items bytes.items
    (g.S.Source.left c.args.source.now) (g.S.Source.left c.read_to_end.new.source) (g.O.Sink.written c.args.out.now) (g.O.Sink.written c.tell_verdict.new.out) exported started
    c.in-Ok.ensures.bytes c.in-Ok.ensures.end short c.in-Ok-parse_apart.ensures.read
    (subst (λ (output : List ℕ). VerdictEnds script output c.tell_verdict.result (g.O.Sink.written c.args.out.now) (g.O.Sink.written c.tell_verdict.new.out))
    c.deref.ensures.value c.tell_verdict.ensures.ends)
