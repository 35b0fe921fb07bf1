use Rattle.output_read.proofs.Shifts.{Turned}
use Rattle.output_read.proofs.reader.Reader.turn_lines.Given as goal

abbrev pub invariant-loop : goal.invariant-loop
invariant-loop l = Turned l.fn.self l.self l.round l.worker l.shift l.counter
