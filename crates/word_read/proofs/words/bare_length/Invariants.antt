use Rattle.std.proofs.Common.{◌≡◌, ◌+◌, drop}
use Rattle.workload_spec.specs.Reading.{WithinWord}
use Rattle.word_read.specs.Cursor.{word_end}
use Rattle.word_read.proofs.words.bare_length.Given as goal

abbrev pub invariant-loop-at : goal.invariant-loop-at
invariant-loop-at l = word_end WithinWord l.bytes ≡ l.at + word_end WithinWord (drop l.at l.bytes)
