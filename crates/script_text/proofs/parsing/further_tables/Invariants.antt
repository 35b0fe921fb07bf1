use Rattle.std.proofs.Common.{◌≡◌, ◌+◌, ◌≤◌, [], length}
use Rattle.workload_spec.specs.Words.{line_feed}
use Rattle.workload_spec.specs.Reading.{parts}
use Rattle.workload_spec.specs.Grammar.{tables_from}
use Rattle.script_text.proofs.parsing.further_tables.Given as goal

abbrev pub invariant-loop-line : goal.invariant-loop-line
invariant-loop-line l = record {
  few : length l.tables ≤ l.extent.tables;
  read : tables_from l.extent 2 [] (parts line_feed l.bytes) ≡ tables_from l.extent (length l.tables + 2) l.tables (parts line_feed l.rest);
}

abbrev pub decreases-loop-line : goal.decreases-loop-line
decreases-loop-line l = length l.rest
