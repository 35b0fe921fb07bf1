use Rattle.output_read.proofs.Faults.{on-line, on-map, done-map}
use Rattle.output_read.proofs.RoundParts.{round-passes, round-fails-first, round-fails-then}
use Rattle.output_read.proofs.reader.Reader.round_lines.Goals as goal

pub returns-in_err-session_lines-clause-failed : goal.returns-in_err-session_lines-clause-failed
returns-in_err-session_lines-clause-failed c =
    on-line (Unit {0}) _ c.from_residual.result _ _ _ c.from_residual.ensures
    (round-fails-first c.args.script.now c.args.round c.args.lines.now c.args.self.now)
    c.in_err-session_lines.ensures.failed

pub returns-clause-passed : goal.returns-clause-passed
returns-clause-passed c =
    done-map _ c.worker_lines.result _ _
    (round-passes c.args.script.now c.args.round c.args.lines.now c.args.self.now c.session_lines.new.self c.worker_lines.new.self c.in_ok-session_lines.ensures.passed)
    c.worker_lines.ensures.passed

pub returns-clause-failed : goal.returns-clause-failed
returns-clause-failed c =
    on-map _ c.worker_lines.result _ _
    (λ line. round-fails-then c.args.script.now c.args.round c.args.lines.now c.args.self.now c.session_lines.new.self line c.in_ok-session_lines.ensures.passed)
    c.worker_lines.ensures.failed
