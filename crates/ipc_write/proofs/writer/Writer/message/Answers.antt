use Rattle.std.proofs.Common.{◌++◌, ◌∙◌, List, ℕ, ap, subst}
use Rattle.std.specs.Prelude.{flat_map}
use Rattle.arrow_spec.specs.Batches.{Array}
use Rattle.arrow_spec.specs.Bytes.{padded}
use Rattle.ipc_message.specs.declared.messages.Message.{Message}
use Rattle.ipc_write.specs.Calls.{SinkFailed, WritesPiece}
use Rattle.ipc_write.proofs.PieceLemmas.{failed-before, wrote-then}
use Rattle.ipc_write.proofs.writer.Writer.message.Goals as goal

pub returns-in-Ok-clause-answer : goal.returns-in-Ok-clause-answer
returns-in-Ok-clause-answer g c =
    let message : Message = c.args.message.now in
    let body : List ℕ = flat_map padded (flat_map (λ array. array.buffers) c.as_slice-in-Ok.result.now) in
    subst
    (λ (piece : List ℕ). WritesPiece g.W.Sink.written g.W.Sink.faults c.args.self.now c.body.new.self piece c.body.result)
    (ap (λ (head : List ℕ). head ++ body) c.as_slice.ensures.value
    ∙ ap (λ (columns : List Array). message.head.items ++ flat_map padded (flat_map (λ array. array.buffers) columns)) c.as_slice-in-Ok.ensures.value)
    (wrote-then g.W.Sink.written g.W.Sink.faults c.args.self.now c.write.new.self c.body.new.self c.as_slice.result.now body c.body.result
    c.in-Ok.ensures.answer c.write.ensures.counted c.body.ensures.answer)

pub returns-in-Err-clause-answer : goal.returns-in-Err-clause-answer
returns-in-Err-clause-answer g c =
    let message : Message = c.args.message.now in
    failed-before g.W.Sink.written g.W.Sink.faults c.args.self.now c.write.new.self message.head.items
    (flat_map padded (flat_map (λ array. array.buffers) message.columns.items)) c.in-Err.fault.earlier
    (subst
    (λ (piece : List ℕ). SinkFailed g.W.Sink.written g.W.Sink.faults c.args.self.now c.write.new.self piece c.in-Err.fault.earlier)
    c.as_slice.ensures.value
    c.in-Err.ensures.answer)
