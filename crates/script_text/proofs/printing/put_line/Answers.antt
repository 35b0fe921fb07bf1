use Rattle.std.proofs.Common.{rules, append_assoc, decimal}
use Rattle.workload_spec.specs.ScriptText.{command_words}
use Rattle.word_text.proofs.Spaces.{spaced_first}
use Rattle.script_text.proofs.printing.put_line.Goals as goal

pub returns : goal.returns
returns c = rw (spaced_first (decimal c.args.line.now.session) (command_words c.args.tables.now c.args.line.now.command)) (search (rules, append_assoc))
