use Rattle.std.proofs.Common.{take}
use Rattle.output_read.proofs.SessionLines.{LinesGo}
use Rattle.output_read.proofs.reader.Reader.session_replies.Given as goal

abbrev pub invariant-loop-line : goal.invariant-loop-line
invariant-loop-line l = LinesGo l.fn.self l.self l.round l.session l.thread (take l.line-index l.lines)
