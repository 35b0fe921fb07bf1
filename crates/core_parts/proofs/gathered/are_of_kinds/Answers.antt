use Rattle.std.proofs.Common.{◌≡◌, ◌∙◌, get_or, sym, arith, rules}
use Rattle.std.proofs.lemmas.List.{length-map, take_more_same}
use Rattle.cell_model.specs.declared.column.Column.{Column}
use Rattle.core_parts.proofs.SameKinds.{kind_at}
use Rattle.core_parts.specs.Kinds.{kinds_of}
use Rattle.core_parts.proofs.gathered.are_of_kinds.Goals as goal

pub loop-at-preserved : goal.loop-at-preserved
loop-at-preserved c =
    let alike : get_or c.args.kinds.now c.loop-at.at c.index-kinds-at.result ≡ c.kind.result = search rules in
    let wide = length-map c.args.columns.now.columns (λ (column : Column). column.kind) in
    take_more_same c.args.kinds.now (kinds_of c.args.columns.now.columns) c.loop-at.at c.index-kinds-at.result
    c.loop-at-test.true
    (omega (arith, c.loop-at-test.true, wide, c.if-kinds-width.false, c.width.ensures))
    c.loop-at.invariant
    (alike ∙ c.kind.ensures
    ∙ sym (kind_at c.args.columns.now.columns c.loop-at.at c.column.result.now.column c.index-kinds-at.result c.column.ensures.column))
