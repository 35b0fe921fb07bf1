use Rattle.std.proofs.Common.{ℕ, List, ap, ◌∙◌}
use Rattle.std.specs.Prelude.{filter, reverse}
use Rattle.std.specs.List.{flat_map}
use Rattle.block_spec.specs.declared.look.MovableRow.{MovableRow}
use Rattle.event_spec.specs.Plans.{is_in_group, pairs_of, row_places}
use Rattle.compact_plan.proofs.planning.plan.Goals as goal

pub returns : goal.returns
returns c =
    c.from.ensures ∙ c.in_ok-pairs.ensures
    ∙ ap (λ (rows : List (ℕ × MovableRow)). pairs_of rows c.deref-2.result.now) (c.deref.ensures.value ∙ c.reverse.ensures.items ∙ ap reverse c.in_ok-rows.ensures)
    ∙ ap (pairs_of (reverse (flat_map row_places (filter is_in_group c.args.looks.now)))) (c.deref-2.ensures.value ∙ c.in_ok-gaps.ensures)
