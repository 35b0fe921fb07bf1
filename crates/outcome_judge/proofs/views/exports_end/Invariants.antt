use Rattle.std.proofs.Common.{◌≡◌, ◌-◌, IfSome, true, take}
use Rattle.std.specs.List.{list_all}
use Rattle.outcome_spec.specs.Runs.{run_of}
use Rattle.outcome_spec.specs.Upkeep.{exports_hold}
use Rattle.output_read.specs.Kept.{entries_of}
use Rattle.outcome_counts.specs.Asked.{IsAsked}
use Rattle.outcome_judge.proofs.views.exports_end.Given as goal

abbrev pub invariant-loop-at : goal.invariant-loop-at
invariant-loop-at l = (list_all (exports_hold (run_of l.exports.tables.now (entries_of l.replies))) (take l.at (entries_of l.replies)) ≡ true) × IfSome l.known (IsAsked l.replies (l.at - 1))
