use Rattle.std.proofs.Common.{◌+◌, List, ℕ, take, drop}
use Rattle.std.specs.Prelude.{flat_map}
use Rattle.ipc_message.specs.Messages.{bytes_of}
use Rattle.ipc_message.specs.declared.messages.Message.{Message}
use Rattle.ipc_write.proofs.PieceLemmas.{failed-within, pieces-around}
use Rattle.ipc_write.proofs.writer.Writer.messages.Goals as goal

pub returns-in-Err-clause-answer : goal.returns-in-Err-clause-answer
returns-in-Err-clause-answer g c =
    let item : Message = c.message-item.result in
    let index : ℕ = c.loop-message.message-index in
    let messages : List Message = c.args.messages.now in
    failed-within g.W.Sink.written g.W.Sink.faults c.args.self.now c.loop-message.self c.message.new.self
    (flat_map bytes_of (take index messages)) (bytes_of item) (flat_map bytes_of (drop (index + 1) messages))
    (flat_map bytes_of messages) c.in-Err.fault.earlier c.loop-message.invariant.wrote c.loop-message.invariant.counted c.in-Err.ensures.answer
    (pieces-around bytes_of messages item index c.loop-message-test.true c.message-item.is)
