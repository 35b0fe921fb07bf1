use Rattle.std.proofs.Common.{◌≡◌, ◌++◌, ◌∷◌, length}
use Rattle.std.specs.Prelude.{Some}
use Rattle.workload_spec.specs.Reading.{words_of}
use Rattle.word_read.specs.Cursor.{words_behind}
use Rattle.reply_text.specs.Readers.{◌>>=◌, cells_in}
use Rattle.reply_text.proofs.rows.row_in.Given as goal

abbrev pub invariant-loop-cells : goal.invariant-loop-cells
invariant-loop-cells l = cells_in (words_of l.line) ≡ (cells_in (l.word ∷ words_behind l.rest) >>= λ more. Some (l.cells.items ++ more))

abbrev pub decreases-loop-cells : goal.decreases-loop-cells
decreases-loop-cells l = length l.rest
