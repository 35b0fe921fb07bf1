use Rattle.std.proofs.Common.{◌≡◌, ◌<◌, None, Some, [], length, get_or, is_some, count_by, rules, arith}
use Rattle.block_body.proofs.Counts.{count-within, one_if}
use Rattle.block_body.proofs.rows.Rows.restore.Goals as goal

pub counted-self-inside-requires-clause-few : goal.counted-self-inside-requires-clause-few
counted-self-inside-requires-clause-few c = λ has.
    let lt : c.args.slot < length c.in-Some.columns.rows = search rules in
    let taken : c.self.inside.count ≡ count_by is_some c.in-Some.columns.rows = search rules in
    let had = one_if (get_or c.in-Some.columns.rows c.args.slot None) c.has_row-had.result c.has_row-had.ensures in
    let within = rw had at (count-within c.in-Some.columns.rows c.args.slot (Some []) lt) in
    omega arith
