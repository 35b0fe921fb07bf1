use Rattle.std.proofs.Common.{◌≡◌, ◌+◌, ◌++◌, drop, length}
use Rattle.std.specs.Prelude.{Ok}
use Rattle.workload_spec.specs.Grammar.{◌>>=◌, cells_of}
use Rattle.script_text.specs.Commands.{row_read}
use Rattle.word_read.specs.Cursor.{words_behind}
use Rattle.script_text.proofs.cells.row_of.Given as goal

abbrev pub invariant-loop-column : goal.invariant-loop-column
invariant-loop-column l = record {
  read : row_read l.columns l.fn.key (words_behind l.words) ≡ (cells_of (drop l.column-index l.columns) (words_behind l.rest) >>= λ more. Ok (l.cells.items ++ more));
  taken : length l.cells.items + length (words_behind l.rest) ≡ length (words_behind l.words) + 1;
}
