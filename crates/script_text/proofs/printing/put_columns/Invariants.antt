use Rattle.std.proofs.Common.{◌≡◌, ◌++◌, drop, map}
use Rattle.workload_spec.specs.ScriptText.{column_text}
use Rattle.word_text.specs.Words.{behind_spaces}
use Rattle.script_text.proofs.printing.put_columns.Given as goal

abbrev pub invariant-loop-column : goal.invariant-loop-column
invariant-loop-column l = l.out.items ++ behind_spaces (map column_text (drop l.column-index l.columns)) ≡ l.initial.out.items ++ behind_spaces (map column_text l.columns)
