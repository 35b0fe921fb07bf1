use Rattle.output_read.proofs.RoundParts.{SessionsOn}
use Rattle.output_read.proofs.reader.Reader.session_lines.Given as goal

abbrev pub invariant-loop-at : goal.invariant-loop-at
invariant-loop-at l = SessionsOn l.script l.round l.lines l.fn.self l.self l.within.items l.at
