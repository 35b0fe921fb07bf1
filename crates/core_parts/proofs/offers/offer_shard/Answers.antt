use Rattle.std.proofs.Common.{◌∙◌, ap, arith, length, sym}
use Rattle.core_parts.proofs.Telling.{table_of_shard}
use Rattle.core_parts.proofs.Numbered.{offered_away, offered_there}
use Rattle.event_spec.specs.Parts.{ShardOf}
use Rattle.core_parts.proofs.offers.offer_shard.Goals.{else-table-tables-via-then-table-tables+else-shard-lt8, else-table-tables-via-else-table-tables}
use Rattle.core_parts.proofs.offers.offer_shard.Goals as goal

pub returns-then-shard-lt8 : goal.returns-then-shard-lt8
returns-then-shard-lt8 c = c.offer.ensures ∙ sym (offered_there c.args.shape.now c.args.least.now (ShardOf c.args.table c.args.shard) c.shard.result c.shard.ensures)

pub returns-else-table-tables : goal.returns-else-table-tables
returns-else-table-tables c = sym (offered_away c.args.shape.now c.args.least.now (ShardOf c.args.table c.args.shard) (λ a.
    let has = table_of_shard c.args.shape.now c.args.table c.args.shard a in
    elim c.else-table-tables.branch [
      | else-table-tables-via-then-table-tables+else-shard-lt8 w ↦ (let h = has.1 in let f = w.if-shard-lt8.false in absurd (omega (arith, h, f)))
      | else-table-tables-via-else-table-tables w ↦ (let h = has.0 in let l = ap length c.tables.ensures.tables in let f = w.if-table-tables.false in absurd (omega (arith, h, l, f)))
    ]))
