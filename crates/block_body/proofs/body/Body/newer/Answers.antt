use Rattle.std.proofs.Common.{◌∙◌, ap, sym}
use Rattle.undo_chain.specs.Conflict.{conflict_of}
use Rattle.block_body.proofs.Bodies.{body_slot}
use Rattle.block_body.proofs.body.Body.newer.Goals as goal

pub returns-in-Some : goal.returns-in-Some
returns-in-Some c =
    let i = c.self.inside in
    rw (← c.self.view_is) (rw (body_slot i.rows i.chains.entries i.written i.phase i.cooling i.rounds i.last c.self.invariant c.args.slot)
    (c.newer.ensures ∙ ap (λ es. conflict_of es c.args.stamp c.args.session) c.in-Some.ensures.entries))

pub returns-in-None : goal.returns-in-None
returns-in-None c =
    let i = c.self.inside in
    rw (← c.self.view_is) (rw (body_slot i.rows i.chains.entries i.written i.phase i.cooling i.rounds i.last c.self.invariant c.args.slot)
    (ap (λ es. conflict_of es c.args.stamp c.args.session) (sym c.in-None.ensures.none)))
