use Rattle.std.proofs.Common.{◌≡◌, ◌∙◌, ℕ, List, Option, length, sym, subst}
use Rattle.std.specs.Prelude.{IfSome}
use Rattle.arrow_spec.specs.Batches.{Array, batch_of_arrays}
use Rattle.arrow_spec.specs.Streams.{batch_message, message_of_batch}
use Rattle.arrow_array.proofs.ArrayLemmas.{arrays-few}
use Rattle.block_columns.specs.Images.{rows_of}
use Rattle.block_columns.proofs.Whole.{held_count}
use Rattle.ipc_write.specs.Calls.{MakesPiece}
use Rattle.ipc_write.proofs.writer.Writer.image.Goals as goal

pub returns-in-Some-clause-answer : goal.returns-in-Some-clause-answer
returns-in-Some-clause-answer g c =
    let image = c.args.image.now in
    let told : c.in-Some.message.now ≡ batch_message image.columns (rows_of image) =
    subst (λ (o : Option (List ℕ)). IfSome o (λ bytes. bytes ≡ batch_message image.columns (rows_of image))) (sym c.in-Some.ensures) c.requires.whole.form.message in
    subst (λ (piece : List ℕ). MakesPiece g.W.Sink.written g.W.Sink.faults c.args.self.now c.ready.new.self piece c.ready.result) told c.ready.ensures.answer

pub arrays-requires-clause-few : goal.arrays-requires-clause-few
arrays-requires-clause-few g c =
    let image = c.args.image.now in
    arrays-few image.columns (rows_of image) c.in_ok-arrays.arrays.items c.requires.few c.in_ok-arrays.ensures

pub returns-clause-answer : goal.returns-clause-answer
returns-clause-answer g c =
    let image = c.args.image.now in
    let makes : ℕ → List Array → Type 0 = λ rows arrays.
    MakesPiece g.W.Sink.written g.W.Sink.faults c.args.self.now c.arrays.new.self (message_of_batch (batch_of_arrays rows arrays)) c.arrays.result in
    let count : c.rows.result ≡ length (rows_of image) =
    c.rows.ensures ∙ sym (held_count image.rows image.slots c.requires.whole.held) in
    subst (λ (arrays : List Array). makes (length (rows_of image)) arrays) c.in_ok-arrays.ensures
    (subst (λ (rows : ℕ). makes rows c.in_ok-arrays.arrays.items) count c.arrays.ensures.answer)
