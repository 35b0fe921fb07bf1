use Rattle.std.proofs.Common.{◌∙◌, ap, arith, length, sym}
use Rattle.core_parts.proofs.Telling.{block_of_body}
use Rattle.core_parts.proofs.Numbered.{offered_away, offered_there}
use Rattle.event_spec.specs.Parts.{BodyOf}
use Rattle.core_parts.proofs.offers.offer_body.Goals.{else-table-tables-via-then-table-tables+else-block-blocks, else-table-tables-via-else-table-tables}
use Rattle.core_parts.proofs.offers.offer_body.Goals as goal

pub returns-then-block-blocks : goal.returns-then-block-blocks
returns-then-block-blocks c = c.offer.ensures ∙ sym (offered_there c.args.shape.now c.args.least.now (BodyOf c.args.table c.args.block) c.body.result c.body.ensures)

pub returns-else-table-tables : goal.returns-else-table-tables
returns-else-table-tables c = sym (offered_away c.args.shape.now c.args.least.now (BodyOf c.args.table c.args.block) (λ a.
    let has = block_of_body c.args.shape.now c.args.table c.args.block a in
    elim c.else-table-tables.branch [
      | else-table-tables-via-then-table-tables+else-block-blocks w ↦ (let h = has.1 in let l = w.blocks-then-table-tables.ensures.blocks in let f = w.if-block-blocks.false in absurd (omega (arith, h, l, f)))
      | else-table-tables-via-else-table-tables w ↦ (let h = has.0 in let l = ap length c.tables.ensures.tables in let f = w.if-table-tables.false in absurd (omega (arith, h, l, f)))
    ]))
