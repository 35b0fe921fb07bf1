use Rattle.std.proofs.Common.{◌+◌, List, ℕ, take, drop, subst}
use Rattle.std.specs.Prelude.{flat_map}
use Rattle.arrow_spec.specs.Bytes.{padded}
use Rattle.ipc_write.specs.Calls.{SinkFailed}
use Rattle.ipc_write.proofs.PieceLemmas.{failed-within, pieces-around}
use Rattle.ipc_write.proofs.writer.Writer.buffers.Goals as goal

pub returns-in-Err-clause-answer : goal.returns-in-Err-clause-answer
returns-in-Err-clause-answer g c =
    let item : List ℕ = c.buffer-item.result in
    let index : ℕ = c.loop-buffer.buffer-index in
    let front : List ℕ = flat_map padded (take index c.args.buffers.now) in
    let rest : List ℕ = flat_map padded (drop (index + 1) c.args.buffers.now) in
    let failed : SinkFailed g.W.Sink.written g.W.Sink.faults c.loop-buffer.self c.padded.new.self (padded item) c.in-Err.fault.earlier =
    subst
    (λ (buffer : List ℕ). SinkFailed g.W.Sink.written g.W.Sink.faults c.loop-buffer.self c.padded.new.self (padded buffer) c.in-Err.fault.earlier)
    c.as_slice.ensures
    c.in-Err.ensures.answer in
    failed-within g.W.Sink.written g.W.Sink.faults c.args.self.now c.loop-buffer.self c.padded.new.self front (padded item) rest
    (flat_map padded c.args.buffers.now) c.in-Err.fault.earlier c.loop-buffer.invariant.wrote c.loop-buffer.invariant.counted failed
    (pieces-around padded c.args.buffers.now item index c.loop-buffer-test.true c.buffer-item.is)
