use Rattle.std.proofs.Common.{subst}
use Rattle.arrow_array.specs.Batches.{BatchView}
use Rattle.arrow_spec.specs.Batches.{batch_of_arrays}
use Rattle.arrow_spec.specs.Streams.{message_of_batch}
use Rattle.ipc_write.specs.Calls.{MakesPiece}
use Rattle.ipc_write.proofs.writer.Writer.rows.Goals as goal

pub returns-clause-answer : goal.returns-clause-answer
returns-clause-answer g c =
    subst
    (λ (batch : BatchView). MakesPiece g.W.Sink.written g.W.Sink.faults c.args.self.now c.batch-2.new.self
    (message_of_batch (batch_of_arrays batch.rows batch.arrays)) c.batch-2.result)
    c.in_ok-batch.ensures
    c.batch-2.ensures.answer
