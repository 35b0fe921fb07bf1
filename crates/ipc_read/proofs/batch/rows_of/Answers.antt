use Rattle.std.proofs.Common.{◌++◌, ◌∷◌, [], sym, ap, ◌∙◌, arith}
use Rattle.std.proofs.lemmas.List.FromFn.{map-range_with_len_more}
use Rattle.ipc_read.specs.Batches.{row_in}
use Rattle.ipc_read.proofs.BatchLemmas.{slot_in_room}
use Rattle.ipc_read.proofs.batch.rows_of.Goals as goal

pub row_of-requires : goal.row_of-requires
row_of-requires c = slot_in_room c.args.count c.loop-i.i c.loop-i-test.true c.args.views.now c.requires

pub loop-i-preserved : goal.loop-i-preserved
loop-i-preserved c =
    let views = c.args.views.now in
    c.in_ok-push.ensures.items
    ∙ (ap (λ row. c.loop-i.rows.items ++ row ∷ []) c.in_ok-row_of.ensures
    ∙ (ap (λ rows. rows ++ row_in views c.loop-i.i ∷ []) c.loop-i.invariant
    ∙ sym (map-range_with_len_more (row_in views) 0 c.loop-i.i c.loop-i.i (omega arith))))
