use Rattle.std.proofs.Common.{◌≡◌, ◌∙◌, true, false, get_or, length, refl, sym, ap, arith, rules}
use Rattle.std.proofs.lemmas.List.{length-map, take_more_same}
use Rattle.std.proofs.lemmas.Option.{get_or_from_slice_get, slice_get_read}
use Rattle.cell_model.specs.declared.column.Column.{Column}
use Rattle.core_parts.proofs.SameKinds.{kind_at}
use Rattle.core_parts.specs.Kinds.{kinds_of}
use Rattle.store_export.proofs.kinds.are_of_same_kinds.Goals as goal

pub returns-then-ne : goal.returns-then-ne
returns-then-ne c =
    let differ : c.kind.result ≡ (get_or c.args.other.now c.loop-at.at c.index-other-at.result).kind → ⊥ = search rules in (
      λ never. absurd (true_is never),
      λ same. absurd (differ
          (sym (get_or_from_slice_get (kinds_of c.args.one.now.columns) c.loop-at.at c.kind.result c.kind.result c.kind.ensures)
          ∙ ap (λ kinds. get_or kinds c.loop-at.at c.kind.result) same
          ∙ kind_at c.args.other.now c.loop-at.at c.index-other-at.result c.kind.result
          (slice_get_read c.args.other.now (length c.args.other.now) c.loop-at.at c.index-other-at.result refl c.loop-at-test.true c.index-other-at.is)
          ∙ ap (λ (column : Column). column.kind) c.index-other-at.is)),
    )
  where
    true_is : false ≡ true → ⊥
    true_is e = cc

pub loop-at-preserved : goal.loop-at-preserved
loop-at-preserved c =
    let alike : c.kind.result ≡ (get_or c.args.other.now c.loop-at.at c.index-other-at.result).kind = search rules in
    let one = length-map c.args.one.now.columns (λ (column : Column). column.kind) in
    let other = length-map c.args.other.now (λ (column : Column). column.kind) in
    take_more_same (kinds_of c.args.one.now.columns) (kinds_of c.args.other.now) c.loop-at.at c.kind.result
    (omega (arith, c.loop-at-test.true, one, c.if-width-other.false, c.width.ensures))
    (omega (arith, c.loop-at-test.true, other))
    c.loop-at.invariant
    (get_or_from_slice_get (kinds_of c.args.one.now.columns) c.loop-at.at c.kind.result c.kind.result c.kind.ensures
    ∙ alike ∙ ap (λ (column : Column). column.kind) (sym c.index-other-at.is)
    ∙ sym (kind_at c.args.other.now c.loop-at.at c.index-other-at.result c.kind.result
    (slice_get_read c.args.other.now (length c.args.other.now) c.loop-at.at c.index-other-at.result refl c.loop-at-test.true c.index-other-at.is)))
