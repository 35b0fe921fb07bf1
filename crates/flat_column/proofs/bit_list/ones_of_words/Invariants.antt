use Rattle.std.proofs.Common.{◌≡◌, take, count_ones}
use Rattle.std.specs.List.{sum_by}
use Rattle.flat_column.proofs.bit_list.ones_of_words.Given as goal

abbrev pub invariant-loop-word : goal.invariant-loop-word
invariant-loop-word l = l.count ≡ sum_by (sum_by count_ones) (take l.word-index l.words)
