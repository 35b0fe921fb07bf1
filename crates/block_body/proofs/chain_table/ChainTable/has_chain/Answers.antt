use Rattle.std.proofs.Common.{◌∙◌, ap, get_or}
use Rattle.block_body.proofs.Tables.{tells}
use Rattle.block_body.proofs.chain_table.ChainTable.has_chain.Goals as goal

pub returns : goal.returns
returns c =
    let i = c.self.inside in
    rw (← c.self.view_is) (tells i.places.items i.used.items i.slots.items i.held.items c.self.invariant c.args.slot c.place_of.result
    (c.place_of.ensures ∙ ap (λ l. get_or l c.args.slot 0) c.as_slice.ensures.value))
