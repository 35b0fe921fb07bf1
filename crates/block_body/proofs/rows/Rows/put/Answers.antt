use Rattle.std.proofs.Common.{◌≡◌, ◌<◌, None, Some, length, get_or, is_some, count_by, rules, arith}
use Rattle.block_body.proofs.Counts.{count-within}
use Rattle.block_body.proofs.rows.Rows.put.Goals as goal

pub overflow_add-self : goal.overflow_add-self
overflow_add-self c =
    let lt : c.args.slot < length c.in-Some.columns.rows = search rules in
    let none : get_or c.in-Some.columns.rows c.args.slot None ≡ None = search rules in
    let taken : c.self.inside.count ≡ count_by is_some c.in-Some.columns.rows = search rules in
    let within = rw none at (count-within c.in-Some.columns.rows c.args.slot (Some c.args.row) lt) in
    omega arith
