use Rattle.std.proofs.Common.{List, ℕ, [], subst}
use Rattle.arrow_spec.specs.Streams.{message}
use Rattle.ipc_write.specs.Calls.{MakesPiece}
use Rattle.ipc_write.proofs.writer.Writer.schema.Goals as goal

pub returns-clause-answer : goal.returns-clause-answer
returns-clause-answer g c =
    subst
    (λ (metadata : List ℕ). MakesPiece g.W.Sink.written g.W.Sink.faults c.args.self.now c.without_body.new.self (message metadata []) c.without_body.result)
    c.in_ok-metadata.ensures.bytes
    c.without_body.ensures.answer
