use Rattle.std.proofs.Common.{◌≡◌, ◌++◌, drop, map}
use Rattle.workload_spec.specs.Words.{lines_text}
use Rattle.workload_spec.specs.ScriptText.{line_text}
use Rattle.script_text.proofs.printing.put_lines.Given as goal

abbrev pub invariant-loop-line : goal.invariant-loop-line
invariant-loop-line l = l.out.items ++ lines_text (map (line_text l.tables) (drop l.line-index l.lines)) ≡ l.initial.out.items ++ lines_text (map (line_text l.tables) l.lines)
