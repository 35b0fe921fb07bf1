use Rattle.std.proofs.Common.{◌++◌, ◌∷◌, [], take, ap, ◌∙◌, append_assoc}
use Rattle.ipc_read.proofs.WholeLemmas.{row-more}
use Rattle.ipc_read.proofs.taking.VecRowTakeBatches.take.Goals as goal

pub loop-i-preserved : goal.loop-i-preserved
loop-i-preserved c =
    c.in_ok-push.ensures.items
    ∙ ap (λ rows. rows ++ c.in_ok-row.field-0 ∷ []) c.loop-i.invariant
    ∙ append_assoc c.args.self.now.items (take c.loop-i.i c.args.batch.now.rows)
    (c.in_ok-row.field-0 ∷ [])
    ∙ ap (λ rows. c.args.self.now.items ++ rows)
    (row-more c.args.batch.now.rows c.loop-i.i c.in_ok-row.field-0 c.in_ok-row.ensures)
