use Rattle.std.proofs.Common.{rules}
use Rattle.workload_spec.specs.Reading.{words_of}
use Rattle.script_text.proofs.Flat.{line_parts}
use Rattle.script_text.proofs.commands.line_of.Goals as goal

pub returns-in_err-command : goal.returns-in_err-command
returns-in_err-command c = rw (line_parts c.args.extent.now c.args.tables.now c.args.sessions c.args.exported (words_of c.args.line.now)) (search rules)

pub returns-then-is_export : goal.returns-then-is_export
returns-then-is_export c = rw (line_parts c.args.extent.now c.args.tables.now c.args.sessions c.args.exported (words_of c.args.line.now)) (search rules)

pub returns : goal.returns
returns c = rw (line_parts c.args.extent.now c.args.tables.now c.args.sessions c.args.exported (words_of c.args.line.now)) (search rules)
