use Rattle.std.proofs.Common.{◌≡◌, option_to_list}
use Rattle.std.specs.List.{flat_map}
use Rattle.core_events.specs.Ranges.{keys_in}
use Rattle.core_events.specs.Stale.{newest_at}
use Rattle.event_spec.specs.Parts.{Parts, below}
use Rattle.hall_rule.specs.Hands.{Agrees}
use Rattle.isolation_spec.specs.declared.read.Read.TheVariants as read
use Rattle.undo_chain.specs.Conflict.{largest}
use Rattle.core_events.proofs.stale.newest_in.Given as goal

abbrev pub invariant-loop-number : goal.invariant-loop-number
invariant-loop-number l = (s : Parts) → Agrees l.fn.held s
    → l.newest ≡ largest (flat_map (λ key. option_to_list (newest_at l.fn.shape s l.fn.snapshot (read.Key l.fn.range.table key))) (flat_map (keys_in l.fn.shape l.fn.held l.fn.range) (below l.number)))
