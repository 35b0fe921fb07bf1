use Rattle.std.proofs.Common.{ap, arith, length}
use Rattle.core_parts.proofs.Ascending.{first_block}
use Rattle.core_parts.proofs.Spots.{number_is}
use Rattle.core_parts.specs.declared.written.PartKind.TheVariants as kinds
use Rattle.core_parts.proofs.offers.first_block.Goals.{else-table-tables-via-then-table-tables+else-blocks-gt0, else-table-tables-via-else-table-tables}
use Rattle.core_parts.proofs.offers.first_block.Goals as goal

pub returns-then-blocks-gt0 : goal.returns-then-blocks-gt0
returns-then-blocks-gt0 c = first_block c.args.shape.now c.args.table c.args.from c.body.result c.saturating_sub.result c.body.ensures c.saturating_sub.ensures

pub returns-else-table-tables : goal.returns-else-table-tables
returns-else-table-tables c block number at =
    let has = number_is c.args.shape.now kinds.Body c.args.table block number at in
    absurd (elim c.else-table-tables.branch [
      | else-table-tables-via-then-table-tables+else-blocks-gt0 w ↦ (let h = has.1 in let l = w.blocks-then-table-tables.ensures.blocks in let f = w.if-blocks-gt0.false in omega (arith, h, l, f))
      | else-table-tables-via-else-table-tables w ↦ (let h = has.0 in let l = ap length c.tables.ensures.tables in let f = w.if-table-tables.false in omega (arith, h, l, f))
    ])
