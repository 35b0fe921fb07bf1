use Rattle.std.proofs.Common.{◌≡◌, ◌+◌, ◌∷◌, ◌++◌, [], take, ap, sym, ◌∙◌, arith}
use Rattle.std.proofs.lemmas.List.{take_more}
use Rattle.core_parts.proofs.FirstParts.{marks_step}
use Rattle.core_parts.proofs.Marks.{has, told}
use Rattle.isolation_spec.specs.Contents.{WriteSet}
use Rattle.isolation_spec.specs.declared.read.Read.TheVariants as read
use Rattle.isolation_spec.specs.Reads.{meets}
use Rattle.core_parts.proofs.first_parts.tables_of.Goals as goal

pub loop-place-init : goal.loop-place-init
loop-place-init c = λ table few. told c.none-tables.result table few ∙ ap (has table) c.none-tables.ensures

pub loop-place-preserved : goal.loop-place-preserved
loop-place-preserved c = λ table few.
    let items = c.as_slice-place-items.result.now in
    let item = c.loop-place-item.result in
    let took : take (c.loop-place.place-index + 1) items ≡ take c.loop-place.place-index items ++ item ∷ [] =
    take_more items c.loop-place.place-index item (omega arith) ∙ ap (λ x. take c.loop-place.place-index items ++ x ∷ []) (sym c.loop-place-item.is) in
    marks_step c.loop-place.tables c.mark.new.self (take c.loop-place.place-index items) item c.mark.ensures c.loop-place.invariant table few
    ∙ sym (ap (λ (writes : WriteSet). meets (read.Table table) writes) took)
