use Rattle.std.proofs.Common.{◌∙◌, ap}
use Rattle.block_spec.specs.Bodies.{Body as BodyValue}
use Rattle.undo_chain.specs.declared.undo.UndoKind.TheVariants.{MoveOut}
use Rattle.block_body.proofs.Installed.{mover}
use Rattle.block_body.proofs.Moved.{undone_gone}
use Rattle.block_body.proofs.body.Body.move_out.Goals as goal

pub returns-in-Err-clause-err : goal.returns-in-Err-clause-err
returns-in-Err-clause-err c =
    ap (λ (b : BodyValue). record b { cooling = c.self.inside.cooling; rounds = c.self.inside.rounds }) c.self-in-Err.view_is
    ∙ undone_gone c.args.self.now c.change.new.self c.args.slot (mover c.args.stamp MoveOut) c.requires.row c.in_ok-change.ensures.ok c.take_off.new.self c.take_off.ensures
    c.self.inside.cooling c.self.inside.rounds (ap (λ (b : BodyValue). b.cooling) c.self.view_is) (ap (λ (b : BodyValue). b.rounds) c.self.view_is)
