use Rattle.std.proofs.Common.{◌≡◌, ◌++◌, drop}
use Rattle.workload_spec.specs.Words.{cell_words}
use Rattle.word_text.specs.Words.{behind_spaces}
use Rattle.word_text.proofs.words.put_cells.Given as goal

abbrev pub invariant-loop-cell : goal.invariant-loop-cell
invariant-loop-cell l = l.out.items ++ behind_spaces (cell_words (drop l.cell-index l.cells)) ≡ l.initial.out.items ++ behind_spaces (cell_words l.cells)
