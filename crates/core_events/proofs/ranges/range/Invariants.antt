use Rattle.std.proofs.Common.{◌≡◌, ◌+◌, ◌≤◌, length, sum_by}
use Rattle.std.specs.List.{filter_map, flat_map}
use Rattle.core_events.specs.Candidates.{candidates_in}
use Rattle.core_events.specs.Ranges.{keys_in}
use Rattle.event_spec.specs.Effects.{found}
use Rattle.event_spec.specs.Judged.{own_key}
use Rattle.event_spec.specs.Parts.{Parts, below}
use Rattle.event_spec.specs.Sound.{Sound}
use Rattle.hall_rule.specs.Hands.{Agrees}
use Rattle.core_events.proofs.ranges.range.Given as goal

abbrev pub invariant-loop-number : goal.invariant-loop-number
invariant-loop-number g l =
    ((s : Parts) → Sound l.fn.shape s → Agrees l.fn.held s → l.rows.items
    ≡ filter_map (λ key. found l.fn.shape s (own_key l.fn.range.table key l.fn.own) l.fn.range.table key) (flat_map (keys_in l.fn.shape l.fn.held l.fn.range) (below l.number)))
    × (l.steps ≤ l.fn.steps + sum_by (λ key. length (candidates_in l.fn.shape l.fn.held l.fn.range.table key)) (flat_map (keys_in l.fn.shape l.fn.held l.fn.range) (below l.number)))
