use Rattle.std.proofs.Common.{rules}
use Rattle.workload_spec.specs.Reading.{words_of}
use Rattle.script_text.proofs.Flat.{table_parts}
use Rattle.script_text.proofs.table.table_of.Goals as goal

pub returns-in_err-slots : goal.returns-in_err-slots
returns-in_err-slots c = rw (table_parts c.args.extent.now c.args.tables.now (words_of c.args.line.now)) (search rules)
