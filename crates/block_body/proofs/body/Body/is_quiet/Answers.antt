use Rattle.std.proofs.Common.{◌∙◌, length, sym}
use Rattle.block_body.proofs.Whole.{quiet_is, tells_zero}
use Rattle.block_body.proofs.body.Body.is_quiet.Goals as goal

pub returns : goal.returns
returns c =
    let i = c.self.inside in
    rw (← c.self.view_is) (tells_zero c.is_empty.result (length i.chains.entries) c.is_empty.ensures ∙ sym (quiet_is i.rows i.chains.entries c.self.invariant.each c.self.invariant.kept))
