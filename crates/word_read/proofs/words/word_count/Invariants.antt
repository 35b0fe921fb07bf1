use Rattle.std.proofs.Common.{◌≡◌, ◌+◌, ◌≤◌, length}
use Rattle.word_read.specs.Cursor.{words_behind}
use Rattle.word_read.proofs.words.word_count.Given as goal

abbrev pub invariant-loop-behind : goal.invariant-loop-behind
invariant-loop-behind l = record {
  counted : l.count + length (words_behind l.rest) ≡ length (words_behind l.words);
  within : l.count + length l.rest ≤ length l.words;
}

abbrev pub decreases-loop-behind : goal.decreases-loop-behind
decreases-loop-behind l = length l.rest
