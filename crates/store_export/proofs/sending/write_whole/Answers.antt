use Rattle.std.proofs.Common.{◌≡◌, ◌∙◌, ℕ, List, refl, sym, ap, subst, arith, Err}
use Rattle.arrow_spec.specs.Streams.{batch_message}
use Rattle.block_columns.specs.Images.{rows_of}
use Rattle.core_parts.specs.Kinds.{kinds_of}
use Rattle.ipc_write.specs.Calls.{MakesPiece, WroteAll}
use Rattle.shared_store.proofs.Counted.{rows_counted}
use Rattle.store_export.proofs.Messages.{image_message, retold}
use Rattle.store_export.proofs.sending.write_whole.Goals as goal

pub returns-in-Ok-clause-answer : goal.returns-in-Ok-clause-answer
returns-in-Ok-clause-answer g c =
    let kinds : kinds_of c.args.image.now.columns ≡ kinds_of c.args.schema.now =
    c.are_of_same_kinds.ensures.0 c.if-not-are_of_same_kinds.false ∙ ap kinds_of c.columns.ensures.columns in
    subst (WroteAll g.W.Sink.written g.W.Sink.faults c.args.writer.now c.image.new.self)
    (image_message c.args.image.now c.args.schema.now (rows_of c.args.image.now) c.requires.whole refl kinds
    (λ none. omega (arith, none, c.rows.ensures, c.if-rows-eq0.false)))
    c.in-Ok.ensures.answer

pub returns-in-Ok-clause-rows : goal.returns-in-Ok-clause-rows
returns-in-Ok-clause-rows g c =
    c.rows-in-Ok.ensures ∙ sym (rows_counted c.args.image.now c.requires.whole)

pub returns-in-Err-clause-answer : goal.returns-in-Err-clause-answer
returns-in-Err-clause-answer g c =
    let kinds : kinds_of c.args.image.now.columns ≡ kinds_of c.args.schema.now =
    c.are_of_same_kinds.ensures.0 c.if-not-are_of_same_kinds.false ∙ ap kinds_of c.columns.ensures.columns in
    subst (λ (piece : List ℕ). MakesPiece {T = ℕ} g.W.Sink.written g.W.Sink.faults c.args.writer.now c.image.new.self piece (Err c.in-Err.fault))
    (image_message c.args.image.now c.args.schema.now (rows_of c.args.image.now) c.requires.whole refl kinds
    (λ none. omega (arith, none, c.rows.ensures, c.if-rows-eq0.false)))
    (retold (Unit {0}) ℕ g.W.Sink.written g.W.Sink.faults c.args.writer.now c.image.new.self (batch_message c.args.image.now.columns (rows_of c.args.image.now)) c.in-Err.fault c.in-Err.ensures.answer)
