use Rattle.std.proofs.Common.{rules}
use Rattle.undo_chain.proofs.Ends.{last_first}
use Rattle.undo_chain.proofs.Order.{IsLawful-next, IsLawful-above}
use Rattle.undo_chain.proofs.chain.Chain.accepts.Goals as goal

pub returns-in-Some : goal.returns-in-Some
returns-in-Some g c =
    let found = last_first c.self.inside.oldest_first.items c.in-Some.newest.now (search rules) in
    let lawful = rw (← c.self.view_is, found.1) at c.requires in
    rw
    (← c.self.view_is, found.1) (
      λ may. IsLawful-next c.args.undo.now c.in-Some.newest.now found.0 (search rules) (c.may_stand_above.ensures.0 may) lawful,
      λ whole. c.may_stand_above.ensures.1 (IsLawful-above c.args.undo.now c.in-Some.newest.now found.0 whole),
    )
