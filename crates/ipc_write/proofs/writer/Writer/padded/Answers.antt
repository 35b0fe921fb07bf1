use Rattle.std.proofs.Common.{◌≡◌, ◌++◌, ◌∙◌, List, ℕ, ap, subst, ◌-◌, length, replicate, arith}
use Rattle.arrow_spec.specs.Bytes.{padded}
use Rattle.ipc_write.specs.Calls.{WritesPiece}
use Rattle.ipc_write.proofs.PieceLemmas.{wrote-then, zeros-taken}
use Rattle.ipc_write.proofs.writer.Writer.padded.Goals as goal

pub returns-in-Ok-clause-answer : goal.returns-in-Ok-clause-answer
returns-in-Ok-clause-answer g c =
    let whole : c.args.buffer.now ++ c.split_at.result.0.now ≡ padded c.args.buffer.now =
    ap
    (λ (zeros : List ℕ). c.args.buffer.now ++ zeros)
    (c.split_at.ensures.front
    ∙ zeros-taken (c.next_multiple_of.result - length c.args.buffer.now) (omega arith)
    ∙ ap (λ (all : ℕ). replicate (all - length c.args.buffer.now) 0) c.next_multiple_of.ensures.value) in
    subst
    (λ (piece : List ℕ). WritesPiece g.W.Sink.written g.W.Sink.faults c.args.self.now c.write-in-Ok.new.self piece c.write-in-Ok.result)
    whole
    (wrote-then g.W.Sink.written g.W.Sink.faults c.args.self.now c.write.new.self c.write-in-Ok.new.self c.args.buffer.now
    c.split_at.result.0.now c.write-in-Ok.result c.in-Ok.ensures.answer c.write.ensures.counted c.write-in-Ok.ensures.answer)
