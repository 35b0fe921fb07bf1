use Rattle.std.proofs.Common.{◌∙◌, not, eqb, ap, sym}
use Rattle.block_body.specs.Chains.{entries_at}
use Rattle.block_body.proofs.Whole.{any_row, taken_is}
use Rattle.block_body.proofs.body.Body.has_row.Goals as goal

pub returns : goal.returns
returns c =
    let i = c.self.inside in
    rw (← c.self.view_is) (ap (λ n. not (eqb n 0)) (c.count.ensures ∙ sym (taken_is i.rows.rows)) ∙ sym (any_row (entries_at i.chains.entries) 0 i.rows.rows))
