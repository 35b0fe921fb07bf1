use Rattle.std.proofs.Common.{◌≡◌, ◌∙◌, List, ℕ, ap, subst}
use Rattle.std.specs.Prelude.{flat_map}
use Rattle.arrow_spec.specs.Streams.{messages_of_dicts}
use Rattle.ipc_write.specs.Calls.{SinkFailed, WroteAll}
use Rattle.ipc_message.specs.Messages.{bytes_of}
use Rattle.ipc_write.proofs.writer.Writer.dicts.Goals as goal

pub returns-in-Ok-clause-answer : goal.returns-in-Ok-clause-answer
returns-in-Ok-clause-answer g c =
    let told : flat_map bytes_of c.as_slice.result.now ≡ messages_of_dicts c.args.dicts.now =
    ap (flat_map bytes_of) c.as_slice.ensures.value ∙ c.in_ok-messages.ensures in
    subst
    (λ (piece : List ℕ). WroteAll g.W.Sink.written g.W.Sink.faults c.args.self.now c.messages.new.self piece)
    told
    c.in-Ok.ensures.answer

pub returns-clause-answer : goal.returns-clause-answer
returns-clause-answer g c =
    let told : flat_map bytes_of c.as_slice.result.now ≡ messages_of_dicts c.args.dicts.now =
    ap (flat_map bytes_of) c.as_slice.ensures.value ∙ c.in_ok-messages.ensures in
    subst
    (λ (piece : List ℕ). SinkFailed g.W.Sink.written g.W.Sink.faults c.args.self.now c.messages.new.self piece c.in-Err.fault.earlier)
    told
    c.in-Err.ensures.answer
