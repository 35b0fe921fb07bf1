use Rattle.program.proofs.Judged.{written_checked}
use Rattle.program.proofs.checking.parse_whole.Goals as goal

pub returns-clause-written : goal.returns-clause-written
returns-clause-written c =
    written_checked (λ x. (x.0, x.1.now)) c.args.bytes.now c.parse_checked.result c.parse_checked.ensures
