use Rattle.std.proofs.Common.{map}
use Rattle.dict_gather.proofs.WalkLemmas.{IsPassed}
use Rattle.dict_gather.proofs.walk.walk.Given as goal

abbrev pub invariant-loop-at : goal.invariant-loop-at
invariant-loop-at l = IsPassed l.placed l.rows l.at (map (λ value. value.now) l.values.items) l.indices.items
