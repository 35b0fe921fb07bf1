use Rattle.std.proofs.Common.{◌∙◌, ap, arith, length, sym}
use Rattle.core_parts.proofs.Telling.{table_of_head}
use Rattle.core_parts.proofs.Numbered.{offered_away, offered_there}
use Rattle.event_spec.specs.Parts.{HeadOf}
use Rattle.core_parts.proofs.offers.offer_head.Goals as goal

pub returns-then-table-tables : goal.returns-then-table-tables
returns-then-table-tables c = c.offer.ensures ∙ sym (offered_there c.args.shape.now c.args.least.now (HeadOf c.args.table) c.head.result c.head.ensures)

pub returns-else-table-tables : goal.returns-else-table-tables
returns-else-table-tables c = sym (offered_away c.args.shape.now c.args.least.now (HeadOf c.args.table)
    (λ a. let has = table_of_head c.args.shape.now c.args.table a in let l = ap length c.tables.ensures.tables in let f = c.if-table-tables.false in
    absurd (omega (arith, has, l, f))))
