use Rattle.std.proofs.Common.{ap, arith, length, refl}
use Rattle.core_parts.proofs.Placing.{number_less}
use Rattle.core_parts.proofs.Telling.{block_of_body}
use Rattle.event_spec.specs.Parts.{BodyOf}
use Rattle.shared_store.proofs.Marking.{none_marked, one_marked}
use Rattle.shared_store.proofs.taking.mark_body.Goals.{else-table-tables-via-then-table-tables+else-block-blocks, else-table-tables-via-else-table-tables}
use Rattle.shared_store.proofs.taking.mark_body.Goals as goal

pub returns-then-block-blocks : goal.returns-then-block-blocks
returns-then-block-blocks c =
    let sh = c.args.shape.now in
    let less = number_less sh (BodyOf c.args.table c.args.block) c.body-number.result c.body-number.ensures in
    one_marked sh (BodyOf c.args.table c.args.block) c.body-number.result c.args.marks.now _ c.body-number.ensures (let r = c.requires in omega (arith, less, r)) refl

pub returns-else-table-tables : goal.returns-else-table-tables
returns-else-table-tables c = none_marked c.args.shape.now (BodyOf c.args.table c.args.block) c.args.marks.now (λ a.
    let has = block_of_body c.args.shape.now c.args.table c.args.block a in
    elim c.else-table-tables.branch [
      | else-table-tables-via-then-table-tables+else-block-blocks w ↦ (let h = has.1 in let l = w.blocks-then-table-tables.ensures.blocks in let f = w.if-block-blocks.false in absurd (omega (arith, h, l, f)))
      | else-table-tables-via-else-table-tables w ↦ (let h = has.0 in let l = ap length c.tables.ensures.tables in let f = w.if-table-tables.false in absurd (omega (arith, h, l, f)))
    ])
