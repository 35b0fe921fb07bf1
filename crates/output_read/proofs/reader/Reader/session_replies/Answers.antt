use Rattle.std.proofs.Common.{arith}
use Rattle.output_read.proofs.Faults.{on-line}
use Rattle.output_read.proofs.SessionLines.{lines-start, lines-next, lines-failed}
use Rattle.output_read.proofs.reader.Reader.session_replies.Goals as goal

pub loop-line-init : goal.loop-line-init
loop-line-init c =
    let a = c.ranges.round in
    let b = c.ranges.session in
    lines-start c.args.self.now c.args.round c.args.session c.args.within (omega (arith, a)) (omega (arith, b)) c.requires.reading c.requires.ahead c.requires.within

pub loop-line-preserved : goal.loop-line-preserved
loop-line-preserved c =
    lines-next c.args.self.now c.loop-line.self c.args.round c.args.session c.loop-line.thread c.args.lines.now c.loop-line.line-index c.line-item.result c.loop-line-test.true c.line-item.is c.loop-line.invariant
    c.line_reply.new.self c.in_ok-thread.thread c.line_reply.ensures.tables c.in_ok-thread.ensures.read

pub returns-in_err-thread-clause-failed : goal.returns-in_err-thread-clause-failed
returns-in_err-thread-clause-failed c =
    on-line (Unit {0}) _ c.from_residual.result _ _ _ c.from_residual.ensures
    (lines-failed c.args.self.now c.loop-line.self c.args.round c.args.session c.loop-line.thread c.args.lines.now c.loop-line.line-index c.line-item.result c.loop-line-test.true c.line-item.is c.loop-line.invariant)
    c.in_err-thread.ensures.failed
