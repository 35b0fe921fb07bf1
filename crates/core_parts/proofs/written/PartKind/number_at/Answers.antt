use Rattle.std.proofs.Common.{◌/◌, ◌^◌, ◌∙◌, Some, ap, arith, length}
use Rattle.core_parts.specs.Written.{count_of, name_of}
use Rattle.core_parts.proofs.Spots.{no_place, no_table, part_there}
use Rattle.core_parts.proofs.written.PartKind.number_at.Goals as goal

pub returns-then-table-tables : goal.returns-then-table-tables
returns-then-table-tables c = no_table c.args.shape.now c.args.self c.args.spot (let l = ap length c.tables.ensures.tables in let t = c.table_of-table.ensures in let f = c.if-table-tables.true in omega (arith, l, t, f))

pub returns-then-index-count : goal.returns-then-index-count
returns-then-index-count c = no_place c.args.shape.now c.args.self c.args.spot
    (let l = c.count.ensures ∙ ap (count_of c.args.shape.now c.args.self) c.table_of-table.ensures in let i = c.index_of-index.ensures in let f = c.if-index-count.true in omega (arith, l, i, f))

pub returns : goal.returns
returns c = part_there c.args.shape.now c.args.self c.args.spot c.number.result
    (c.number.ensures
    ∙ ap (λ t. Some (name_of c.args.self t c.index_of-index.result)) c.table_of-table.ensures
    ∙ ap (λ i. Some (name_of c.args.self (c.args.spot / 2 ^ 32) i)) c.index_of-index.ensures)
