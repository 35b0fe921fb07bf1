use Rattle.program.proofs.Scripts.{written_read}
use Rattle.program.proofs.performing.parse_script.Goals as goal

pub returns-clause-written : goal.returns-clause-written
returns-clause-written c = written_read c.args.bytes.now c.parse.result c.parse.ensures
