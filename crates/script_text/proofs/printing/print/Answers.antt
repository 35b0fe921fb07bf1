use Rattle.std.proofs.Common.{rules, append_assoc}
use Rattle.script_text.proofs.Spaces.{script_parts}
use Rattle.script_text.proofs.printing.print.Goals as goal

pub returns : goal.returns
returns c = rw (script_parts c.args.script.now) (search (rules, append_assoc))
