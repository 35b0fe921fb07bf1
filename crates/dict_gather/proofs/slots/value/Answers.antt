use Rattle.std.proofs.Common.{◌+◌, ◌<◌, ◌∙◌, ap, arith, length, List}
use Rattle.cell_model.specs.declared.cell.Cell.{Cell}
use Rattle.dict_gather.proofs.SlotLemmas.{begins-next, begins-within, length-starts, start-is, value-is}
use Rattle.dict_gather.proofs.slots.value.Goals as goal

pub start-begin-requires : goal.start-begin-requires
start-begin-requires c =
    let cells : List Cell = c.requires.some.0 in
    let has = c.requires.some.1 in
    omega (arith, ap length has.offsets_are, length-starts 0 cells, has.rows_are)

pub start-end-requires : goal.start-end-requires
start-end-requires c =
    let cells : List Cell = c.requires.some.0 in
    let has = c.requires.some.1 in
    omega (arith, ap length has.offsets_are, length-starts 0 cells, has.rows_are)

pub between-requires-clause-begin : goal.between-requires-clause-begin
between-requires-clause-begin c =
    let cells : List Cell = c.requires.some.0 in
    let has = c.requires.some.1 in
    let rows = has.rows_are in
    let first = start-is cells c.args.column.now.offsets.now c.args.column.now.values.now c.args.slot has.offsets_are has.values_are c.requires.few (omega arith) in
    let second = start-is cells c.args.column.now.offsets.now c.args.column.now.values.now (c.args.slot + 1) has.offsets_are has.values_are c.requires.few (omega arith) in
    let next = begins-next cells c.args.slot (omega arith) in
    omega (arith, c.start-begin.ensures, c.start-end.ensures, first, second, next)

pub between-requires-clause-end : goal.between-requires-clause-end
between-requires-clause-end c =
    let cells : List Cell = c.requires.some.0 in
    let has = c.requires.some.1 in
    let rows = has.rows_are in
    let second = start-is cells c.args.column.now.offsets.now c.args.column.now.values.now (c.args.slot + 1) has.offsets_are has.values_are c.requires.few (omega arith) in
    omega (arith, c.start-end.ensures, second, begins-within cells (c.args.slot + 1), ap length has.values_are)

pub returns : goal.returns
returns c = λ cells has.
    let rows = has.rows_are in
    let inside : c.args.slot < length cells = omega (arith, c.requires.slot) in
    let first = start-is cells c.args.column.now.offsets.now c.args.column.now.values.now c.args.slot has.offsets_are has.values_are c.requires.few (omega arith) in
    let second = start-is cells c.args.column.now.offsets.now c.args.column.now.values.now (c.args.slot + 1) has.offsets_are has.values_are c.requires.few (omega arith) in
    c.between.ensures
    ∙ value-is cells c.args.column.now.values.now c.args.slot c.start-begin.result c.start-end.result has.values_are inside
    (c.start-begin.ensures ∙ first) (c.start-end.ensures ∙ second)
