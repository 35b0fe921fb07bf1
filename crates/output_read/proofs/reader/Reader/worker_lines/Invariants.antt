use Rattle.std.proofs.Common.{◌≡◌}
use Rattle.output_read.proofs.RoundParts.{WorkersOn}
use Rattle.output_read.proofs.reader.Reader.worker_lines.Given as goal

abbrev pub invariant-loop-at : goal.invariant-loop-at
invariant-loop-at l = (tables_are : l.fn.self.tables.now ≡ l.script.tables) → WorkersOn l.script l.round l.fn.self tables_are l.self l.at
