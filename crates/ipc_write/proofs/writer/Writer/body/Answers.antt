use Rattle.std.proofs.Common.{◌+◌, List, ℕ, take, drop, subst}
use Rattle.std.specs.Prelude.{flat_map}
use Rattle.arrow_spec.specs.Batches.{Array}
use Rattle.arrow_spec.specs.Bytes.{padded}
use Rattle.ipc_write.specs.Calls.{SinkFailed}
use Rattle.ipc_write.proofs.PieceLemmas.{failed-within, buffers-around}
use Rattle.ipc_write.proofs.writer.Writer.body.Goals as goal

pub returns-in-Err-clause-answer : goal.returns-in-Err-clause-answer
returns-in-Err-clause-answer g c =
    let item : Array = c.array-item.result in
    let index : ℕ = c.loop-array.array-index in
    let arrays : List Array = c.args.arrays.now in
    let front : List ℕ = flat_map padded (flat_map (λ array. array.buffers) (take index arrays)) in
    let rest : List ℕ = flat_map padded (flat_map (λ array. array.buffers) (drop (index + 1) arrays)) in
    let new = c.buffers-in-loop-array.new.self in
    let failed : SinkFailed g.W.Sink.written g.W.Sink.faults c.loop-array.self new (flat_map padded item.buffers) c.in-Err.fault.earlier =
    subst
    (λ (buffers : List (List ℕ)). SinkFailed g.W.Sink.written g.W.Sink.faults c.loop-array.self new (flat_map padded buffers) c.in-Err.fault.earlier)
    c.buffers.ensures
    c.in-Err.ensures.answer in
    failed-within g.W.Sink.written g.W.Sink.faults c.args.self.now c.loop-array.self new front (flat_map padded item.buffers) rest
    (flat_map padded (flat_map (λ array. array.buffers) arrays)) c.in-Err.fault.earlier c.loop-array.invariant.wrote c.loop-array.invariant.counted failed
    (buffers-around arrays item index c.loop-array-test.true c.array-item.is)
