use Rattle.std.proofs.Common.{◌≡◌, ◌∙◌, ◌&&◌, ap, cond, arith, nat_lt, true, slice_index_or}
use Rattle.std.proofs.lemmas.Bool.Decides.{nat_tests}
use Rattle.txn_desk.specs.Marks.{is_marked}
use Rattle.txn_desk.proofs.Tables.{is-marked}
use Rattle.txn_desk.proofs.mark_all.Goals as goal

pub returns : goal.returns
returns c =
    is-marked c.loop-table.wrote c.args.number (is_marked c.args.tables.now) c.args.wrote.now c.loop-table.invariant.0
    (λ t low. let end : nat_lt t c.loop-table.table ≡ true = grind (arith, nat_tests, low, c.loop-table-test.false) in
    c.loop-table.invariant.1 t low
    ∙ ap (λ b. cond (b && is_marked c.args.tables.now t) c.args.number (slice_index_or c.args.wrote.now t 0)) end)
