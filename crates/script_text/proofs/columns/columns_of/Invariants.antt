use Rattle.std.proofs.Common.{◌≡◌, ◌∷◌, [], length}
use Rattle.workload_spec.specs.Grammar.{columns_from, key_column}
use Rattle.word_read.specs.Cursor.{words_behind}
use Rattle.script_text.proofs.columns.columns_of.Given as goal

abbrev pub decreases-loop-word : goal.decreases-loop-word
decreases-loop-word l = length l.rest

abbrev pub invariant-loop-word : goal.invariant-loop-word
invariant-loop-word l = columns_from l.extent l.columns.items (words_behind l.rest) ≡ columns_from l.extent (key_column ∷ []) (words_behind l.words)
