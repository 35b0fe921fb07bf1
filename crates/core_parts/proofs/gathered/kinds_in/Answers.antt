use Rattle.std.proofs.Common.{◌∙◌, List, [], ◌∷◌, ◌++◌, take, sym, ap, arith}
use Rattle.std.proofs.lemmas.List.{length-map, take_more}
use Rattle.cell_model.specs.declared.column.Column.{Column}
use Rattle.cell_model.specs.declared.kind.Kind.{Kind}
use Rattle.core_parts.proofs.SameKinds.{kind_at}
use Rattle.core_parts.specs.Kinds.{kinds_of}
use Rattle.core_parts.proofs.gathered.kinds_in.Goals as goal

pub loop-at-preserved : goal.loop-at-preserved
loop-at-preserved c =
    let all = kinds_of c.args.columns.now.columns in
    let wide = length-map c.args.columns.now.columns (λ (column : Column). column.kind) in
    let here = kind_at c.args.columns.now.columns c.loop-at.at c.column.result.now.column c.kind.result c.column.ensures.column in
    c.in_ok-push.ensures.items
    ∙ ap (λ (front : List Kind). front ++ c.kind.result ∷ []) c.loop-at.invariant
    ∙ ap (λ (kind : Kind). take c.loop-at.at all ++ kind ∷ []) (c.kind.ensures ∙ sym here)
    ∙ sym (take_more all c.loop-at.at c.kind.result (omega (arith, c.loop-at-test.true, wide, c.width-at-end.ensures)))
