use Rattle.std.proofs.Common.{◌≡◌, drop}
use Rattle.std.specs.Prelude.{fold}
use Rattle.outcome_judge.specs.Exports.{least_in, least_next}
use Rattle.outcome_judge.proofs.exports.least_key.Given as goal

abbrev pub invariant-loop-change : goal.invariant-loop-change
invariant-loop-change l = least_in l.table l.bound l.own ≡ fold (least_next l.table l.bound) l.least (drop l.change-index l.own)
