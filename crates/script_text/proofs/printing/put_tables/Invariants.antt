use Rattle.std.proofs.Common.{◌≡◌, ◌++◌, drop, map}
use Rattle.workload_spec.specs.Words.{lines_text}
use Rattle.workload_spec.specs.ScriptText.{table_text}
use Rattle.script_text.proofs.printing.put_tables.Given as goal

abbrev pub invariant-loop-table : goal.invariant-loop-table
invariant-loop-table l = l.out.items ++ lines_text (map table_text (drop l.table-index l.tables)) ≡ l.initial.out.items ++ lines_text (map table_text l.tables)
