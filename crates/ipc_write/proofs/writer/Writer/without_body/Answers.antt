use Rattle.std.proofs.Common.{◌∙◌, List, ℕ, length, ap, subst, arith}
use Rattle.ipc_write.specs.Calls.{MakesPiece}
use Rattle.ipc_write.proofs.PieceLemmas.{framed-is}
use Rattle.ipc_write.proofs.writer.Writer.without_body.Goals as goal

pub framed-requires : goal.framed-requires
framed-requires g c = record { empty = cc; short = omega (arith, ap length c.as_slice.ensures, c.requires.short) }

pub returns-clause-answer : goal.returns-clause-answer
returns-clause-answer g c =
    subst
    (λ (piece : List ℕ). MakesPiece g.W.Sink.written g.W.Sink.faults c.args.self.now c.ready.new.self piece c.ready.result)
    (c.as_slice-2.ensures.value ∙ c.in_ok-piece.ensures ∙ framed-is c.as_slice.result.now c.args.metadata.now c.as_slice.ensures)
    c.ready.ensures.answer
