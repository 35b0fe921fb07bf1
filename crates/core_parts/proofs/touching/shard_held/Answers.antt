use Rattle.std.proofs.Common.{rules, ◌≡◌, ◌∙◌, Some, ap, arith, length}
use Rattle.std.specs.Prelude.{slice_get}
use Rattle.event_spec.specs.Parts.{ShardOf, names}
use Rattle.core_parts.proofs.Held.{no_room, no_table, shard_there}
use Rattle.core_parts.proofs.touching.shard_held.Goals as goal

pub returns-then-table-tables : goal.returns-then-table-tables
returns-then-table-tables c = no_table c.args.shape.now c.args.held.now c.args.table c.args.shard
    (let l = ap length c.tables.ensures.tables in let f = c.if-table-tables.true in omega (arith, l, f))

pub returns-then-number-len : goal.returns-then-number-len
returns-then-number-len c =
    let at : slice_get (names c.args.shape.now) c.shard-number.result ≡ Some (ShardOf c.args.table c.args.shard) = search rules in
    no_room c.args.shape.now c.args.held.now c.args.table c.args.shard c.shard-number.result at
    (let l = c.len.ensures in let f = c.if-number-len.true in omega (arith, l, f))

pub returns : goal.returns
returns c =
    let at : slice_get (names c.args.shape.now) c.shard-number.result ≡ Some (ShardOf c.args.table c.args.shard) = search rules in
    shard_there c.args.shape.now c.args.held.now c.args.table c.args.shard c.shard-number.result c.get.result.now at c.get.ensures ∙ c.shard_in.ensures
