use Rattle.std.proofs.Common.{rules}
use Rattle.workload_spec.specs.Words.{line_feed}
use Rattle.workload_spec.specs.Reading.{parts}
use Rattle.script_text.proofs.Flat.{script_parts}
use Rattle.script_text.proofs.parsing.parse.Goals as goal

pub returns-in_err-version : goal.returns-in_err-version
returns-in_err-version c = rw (script_parts (parts line_feed c.args.bytes.now)) (search rules)

pub returns : goal.returns
returns c = rw (script_parts (parts line_feed c.args.bytes.now), c.in_ok-version.ensures) (rw c.of.ensures at c.parse_behind.ensures)
