use Rattle.std.proofs.Common.{◌≡◌, ◌∙◌, ℕ, List, subst}
use Rattle.arrow_spec.specs.Batches.{Array, batch_of_arrays}
use Rattle.arrow_spec.specs.Streams.{message_of_batch}
use Rattle.ipc_write.specs.Calls.{MakesPiece}
use Rattle.ipc_write.proofs.writer.Writer.batch.Goals as goal

pub returns-clause-answer : goal.returns-clause-answer
returns-clause-answer g c =
    let makes : ℕ → List Array → Type 0 = λ rows arrays.
    MakesPiece g.W.Sink.written g.W.Sink.faults c.args.self.now c.arrays-2.new.self (message_of_batch (batch_of_arrays rows arrays)) c.arrays-2.result in
    let lent : c.in_ok-arrays.arrays.items ≡ c.args.batch.now.arrays = c.in_ok-arrays.ensures ∙ c.arrays.ensures.arrays in
    subst (λ (arrays : List Array). makes c.args.batch.now.rows arrays) lent
    (subst (λ (rows : ℕ). makes rows c.in_ok-arrays.arrays.items) c.rows.ensures c.arrays-2.ensures.answer)
