use Rattle.std.proofs.Common.{◌∙◌, ap, sym}
use Rattle.undo_chain.specs.Conflict.{largest, numbers_above}
use Rattle.block_body.proofs.Bodies.{body_slot}
use Rattle.block_body.proofs.body.Body.above.Goals as goal

pub returns-in-Some : goal.returns-in-Some
returns-in-Some c =
    let i = c.self.inside in
    rw (← c.self.view_is) (rw (body_slot i.rows i.chains.entries i.written i.phase i.cooling i.rounds i.last c.self.invariant c.args.slot)
    (c.above.ensures ∙ ap (λ es. largest (numbers_above es c.args.stamp)) c.in-Some.ensures.entries))

pub returns-in-None : goal.returns-in-None
returns-in-None c =
    let i = c.self.inside in
    rw (← c.self.view_is) (rw (body_slot i.rows i.chains.entries i.written i.phase i.cooling i.rounds i.last c.self.invariant c.args.slot)
    (ap (λ es. largest (numbers_above es c.args.stamp)) (sym c.in-None.ensures.none)))
