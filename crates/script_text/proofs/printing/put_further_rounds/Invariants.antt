use Rattle.std.proofs.Common.{◌≡◌, ◌++◌, drop}
use Rattle.script_text.specs.Rounds.{rounds_behind}
use Rattle.script_text.proofs.printing.put_further_rounds.Given as goal

abbrev pub invariant-loop-round : goal.invariant-loop-round
invariant-loop-round l = l.out.items ++ rounds_behind l.tables (drop l.round-index l.rounds) ≡ l.initial.out.items ++ rounds_behind l.tables l.rounds
