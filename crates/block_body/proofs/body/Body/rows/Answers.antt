use Rattle.std.proofs.Common.{◌∙◌, List, Option, ap, sym}
use Rattle.std.specs.Prelude.{count_by, is_some}
use Rattle.block_spec.specs.Slots.{Row}
use Rattle.block_body.specs.Chains.{entries_at}
use Rattle.block_body.proofs.Slots.{slots-rows}
use Rattle.block_body.proofs.body.Body.rows.Goals as goal

pub returns : goal.returns
returns c =
    let i = c.self.inside in
    rw (← c.self.view_is) (c.count.ensures ∙ ap (λ (l : List (Option Row)). count_by is_some l) (sym (slots-rows (entries_at i.chains.entries) 0 i.rows.rows)))
