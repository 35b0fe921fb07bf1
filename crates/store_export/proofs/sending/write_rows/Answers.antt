use Rattle.std.proofs.Common.{◌≡◌, ◌∙◌, ℕ, List, length, sym, subst, true, false, Err}
use Rattle.std.proofs.lemmas.Bool.{eq-eqb}
use Rattle.arrow_spec.specs.Streams.{batch_message}
use Rattle.ipc_write.specs.Calls.{MakesPiece, WroteAll}
use Rattle.store_export.proofs.Messages.{message_is, retold}
use Rattle.store_export.proofs.sending.write_rows.Goals as goal

pub returns-in-Ok-clause-answer : goal.returns-in-Ok-clause-answer
returns-in-Ok-clause-answer g c =
    subst (WroteAll g.W.Sink.written g.W.Sink.faults c.args.writer.now c.rows.new.self) (message_is c.args.schema.now c.args.rows.now (λ none.
    let is : true ≡ false = sym (eq-eqb (length c.args.rows.now) 0 none) ∙ sym c.is_empty.ensures ∙ c.if-is_empty.false in
    absurd (let no : ⊥ = cc in no)))
    c.in-Ok.ensures.answer

pub returns-in-Err-clause-answer : goal.returns-in-Err-clause-answer
returns-in-Err-clause-answer g c =
    subst (λ (piece : List ℕ). MakesPiece {T = ℕ} g.W.Sink.written g.W.Sink.faults c.args.writer.now c.rows.new.self piece (Err c.in-Err.fault)) (message_is c.args.schema.now c.args.rows.now (λ none.
    let is : true ≡ false = sym (eq-eqb (length c.args.rows.now) 0 none) ∙ sym c.is_empty.ensures ∙ c.if-is_empty.false in
    absurd (let no : ⊥ = cc in no)))
    (retold (Unit {0}) ℕ g.W.Sink.written g.W.Sink.faults c.args.writer.now c.rows.new.self (batch_message c.args.schema.now c.args.rows.now) c.in-Err.fault c.in-Err.ensures.answer)
