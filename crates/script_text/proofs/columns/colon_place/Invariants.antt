use Rattle.std.proofs.Common.{◌≡◌, ◌++◌, take, drop}
use Rattle.workload_spec.specs.Grammar.{before_colon}
use Rattle.script_text.proofs.columns.colon_place.Given as goal

abbrev pub invariant-loop-at : goal.invariant-loop-at
invariant-loop-at l = before_colon l.word ≡ take l.at l.word ++ before_colon (drop l.at l.word)
