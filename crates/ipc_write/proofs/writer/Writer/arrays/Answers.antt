use Rattle.std.proofs.Common.{List, ℕ, subst}
use Rattle.arrow_spec.specs.Batches.{batch_of_arrays}
use Rattle.arrow_spec.specs.Streams.{message_of_batch}
use Rattle.ipc_write.specs.Calls.{MakesPiece}
use Rattle.ipc_write.proofs.writer.Writer.arrays.Goals as goal

pub returns-clause-answer : goal.returns-clause-answer
returns-clause-answer g c =
    subst
    (λ old. MakesPiece g.W.Sink.written g.W.Sink.faults old c.kept.new.self
    (message_of_batch (batch_of_arrays c.args.rows c.args.arrays.items)) c.kept.result)
    c.empty-empty.ensures.same
    (subst
    (λ (piece : List ℕ). MakesPiece g.W.Sink.written g.W.Sink.faults c.empty-empty.new.self c.kept.new.self piece c.kept.result)
    c.in_ok-message.ensures
    c.kept.ensures.answer)
