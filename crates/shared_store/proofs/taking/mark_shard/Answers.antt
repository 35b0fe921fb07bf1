use Rattle.std.proofs.Common.{ap, arith, length, refl}
use Rattle.core_parts.proofs.Placing.{number_less}
use Rattle.core_parts.proofs.Telling.{table_of_shard}
use Rattle.event_spec.specs.Parts.{ShardOf}
use Rattle.shared_store.proofs.Marking.{none_marked, one_marked}
use Rattle.shared_store.proofs.taking.mark_shard.Goals as goal

pub returns-then-table-tables : goal.returns-then-table-tables
returns-then-table-tables c =
    let sh = c.args.shape.now in
    let less = number_less sh (ShardOf c.args.table c.args.shard) c.shard-number.result c.shard-number.ensures in
    one_marked sh (ShardOf c.args.table c.args.shard) c.shard-number.result c.args.marks.now _ c.shard-number.ensures (let r = c.requires.room in omega (arith, less, r)) refl

pub returns-else-table-tables : goal.returns-else-table-tables
returns-else-table-tables c = none_marked c.args.shape.now (ShardOf c.args.table c.args.shard) c.args.marks.now (λ a.
    let has = (table_of_shard c.args.shape.now c.args.table c.args.shard a).0 in
    let l = ap length c.tables.ensures.tables in let f = c.if-table-tables.false in absurd (omega (arith, has, l, f)))
