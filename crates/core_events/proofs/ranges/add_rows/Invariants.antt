use Rattle.std.proofs.Common.{◌≡◌, ◌+◌, ◌≤◌, ◌++◌, length, map, sum_by}
use Rattle.std.specs.List.{filter_map}
use Rattle.core_events.specs.Candidates.{candidates_in}
use Rattle.event_spec.specs.Effects.{found}
use Rattle.event_spec.specs.Judged.{own_key}
use Rattle.event_spec.specs.Parts.{Parts}
use Rattle.event_spec.specs.Sound.{Sound}
use Rattle.hall_rule.specs.Hands.{Agrees}
use Rattle.core_events.proofs.ranges.add_rows.Given as goal

abbrev pub invariant-loop-key : goal.invariant-loop-key
invariant-loop-key g l =
    ((s : Parts) → Sound l.fn.shape s → Agrees l.fn.held s → l.rows.items
    ≡ l.fn.rows.items ++ filter_map (λ key. found l.fn.shape s (own_key l.fn.range.table key l.fn.own) l.fn.range.table key) (map (λ key. key.now) l.yielded))
    × (l.steps ≤ l.fn.steps + sum_by (λ key. length (candidates_in l.fn.shape l.fn.held l.fn.range.table key)) (map (λ key. key.now) l.yielded))
