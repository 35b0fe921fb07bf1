use Rattle.std.proofs.Common.{◌∙◌, sym, arith, List}
use Rattle.cell_model.specs.declared.cell.Cell.{Cell}
use Rattle.dict_gather.proofs.SlotLemmas.{bitmap-room, none-null, valid-bit}
use Rattle.dict_gather.proofs.slots.is_valid.Goals as goal

pub bit-requires : goal.bit-requires
bit-requires c =
    let cells : List Cell = c.requires.some.0 in
    let has = c.requires.some.1 in
    let rows = has.rows_are in
    bitmap-room cells c.args.column.now.validity.now c.args.slot (λ none. c.if-column-eq0.false (sym has.nulls_are ∙ none)) has.validity_is (omega (arith, c.requires.slot))

pub returns : goal.returns
returns c = λ cells has.
    let rows = has.rows_are in
    c.bit.ensures
    ∙ valid-bit cells c.args.column.now.validity.now c.args.slot (λ none. c.if-column-eq0.false (sym has.nulls_are ∙ none)) has.validity_is
    (omega (arith, c.requires.slot))

pub returns-then-column-eq0 : goal.returns-then-column-eq0
returns-then-column-eq0 c = λ cells has.
    let rows = has.rows_are in
    none-null cells c.args.slot (has.nulls_are ∙ c.if-column-eq0.true) (omega (arith, c.requires.slot))
