use Rattle.std.proofs.Common.{ap, sym, ◌∙◌, is_some, int_cmp}
use Rattle.std.specs.FinMap as map
use Rattle.std.specs.FinMap.{get-empty}
use Rattle.std.specs.List.{list_any}
use Rattle.std.specs.Ordering.{is_eq}
use Rattle.range_index.proofs.Ordered.new.Goals as goal

pub invariant_of-result : goal.invariant_of-result
invariant_of-result c = λ key.
    ap (list_any (λ k. is_eq (int_cmp key k))) c.new-2.ensures.empty
    ∙ sym (ap (λ m. map.contains_key m key) c.new.ensures ∙ ap is_some (get-empty int_cmp key))
