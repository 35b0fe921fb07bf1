use Rattle.std.proofs.Common.{◌≡◌, ◌+◌, drop}
use Rattle.std.specs.Prelude.{if◌then◌else◌}
use Rattle.workload_spec.specs.Reading.{WithinText, BehindBackslash}
use Rattle.word_read.specs.Cursor.{word_end}
use Rattle.word_read.proofs.words.text_length.Given as goal

abbrev pub invariant-loop-at : goal.invariant-loop-at
invariant-loop-at l = word_end WithinText l.text ≡ l.at + word_end (if l.is_escaped then BehindBackslash else WithinText) (drop l.at l.text)
