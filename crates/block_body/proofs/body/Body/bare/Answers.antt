use Rattle.std.proofs.Common.{refl, None, get_or, subst, List, Option}
use Rattle.std.specs.Prelude.{◌↔◌, IsTrue, IsSome}
use Rattle.block_spec.specs.Slots.{Row}
use Rattle.block_body.specs.Chains.{chain_at}
use Rattle.block_body.proofs.Bodies.{body_slot}
use Rattle.block_body.proofs.Whole.{bare_then, bare_else}
use Rattle.block_body.proofs.body.Body.bare.Goals as goal

pub returns-then-not-has_row : goal.returns-then-not-has_row
returns-then-not-has_row c =
    let i = c.self.inside in
    rw (← c.self.view_is) (rw (body_slot i.rows i.chains.entries i.written i.phase i.cooling i.rounds i.last c.self.invariant c.args.slot)
    (bare_then (get_or i.rows.rows c.args.slot None) (chain_at i.chains.entries c.args.slot) (c.self.invariant.each.each c.args.slot) c.has_row.result c.has_chain.result
    (subst (λ (l : List (Option Row)). IsTrue c.has_row.result ↔ IsSome (get_or l c.args.slot None)) c.columns.ensures.rows c.has_row.ensures)
    c.has_chain.ensures
    c.if-not-has_row.true))

pub returns-else-not-has_row : goal.returns-else-not-has_row
returns-else-not-has_row c =
    let i = c.self.inside in
    rw (← c.self.view_is) (rw (body_slot i.rows i.chains.entries i.written i.phase i.cooling i.rounds i.last c.self.invariant c.args.slot)
    (bare_else (get_or i.rows.rows c.args.slot None) (chain_at i.chains.entries c.args.slot) (c.self.invariant.each.each c.args.slot) c.has_row.result _
    (subst (λ (l : List (Option Row)). IsTrue c.has_row.result ↔ IsSome (get_or l c.args.slot None)) c.columns.ensures.rows c.has_row.ensures)
    refl
    c.if-not-has_row.false))
