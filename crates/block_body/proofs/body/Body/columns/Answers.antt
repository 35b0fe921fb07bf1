use Rattle.std.proofs.Common.{◌∙◌, sym}
use Rattle.block_body.specs.Chains.{entries_at}
use Rattle.block_body.proofs.Slots.{slots-rows}
use Rattle.block_body.proofs.body.Body.columns.Goals as goal

pub returns-clause-rows : goal.returns-clause-rows
returns-clause-rows c =
    let i = c.self.inside in
    rw (← c.self.view_is) (c.columns.ensures.rows ∙ sym (slots-rows (entries_at i.chains.entries) 0 i.rows.rows))
