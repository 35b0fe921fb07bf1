use Rattle.std.proofs.Common.{rules}
use Rattle.workload_spec.specs.Words.{line_feed}
use Rattle.workload_spec.specs.Reading.{parts}
use Rattle.script_text.proofs.Flat.{behind_parts}
use Rattle.script_text.proofs.parsing.parse_behind.Goals as goal

pub returns-in_err-sessions : goal.returns-in_err-sessions
returns-in_err-sessions c = rw (behind_parts c.args.version c.args.extent.now (parts line_feed c.args.bytes.now)) (search rules)

pub returns-in_err-workers : goal.returns-in_err-workers
returns-in_err-workers c = rw (behind_parts c.args.version c.args.extent.now (parts line_feed c.args.bytes.now)) (search rules)

pub returns-in_err-rest : goal.returns-in_err-rest
returns-in_err-rest c = rw (behind_parts c.args.version c.args.extent.now (parts line_feed c.args.bytes.now)) (search rules)
