use Rattle.std.proofs.Common.{◌≡◌, true, length}
use Rattle.reply_text.specs.Shown.{are_tables}
use Rattle.output_read.proofs.StepLoops.{Stepped}
use Rattle.output_read.proofs.reader.Reader.step_lines.Given as goal

abbrev pub invariant-loop-after : goal.invariant-loop-after
invariant-loop-after l = record {
  tables : l.self.tables.now ≡ l.fn.self.tables.now;
  stepped : (are : are_tables l.fn.self.tables.now ≡ true) → Stepped l.fn.self l.fn.shift are l.self l.shift l.steps;
}

abbrev pub decreases-loop-after : goal.decreases-loop-after
decreases-loop-after l = length l.self.rest.now
