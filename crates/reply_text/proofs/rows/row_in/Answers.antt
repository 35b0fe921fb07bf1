use Rattle.std.proofs.Common.{◌≡◌, ◌∙◌, ◌∷◌, ◌++◌, [], sym, ap}
use Rattle.std.specs.Prelude.{Some}
use Rattle.word_read.specs.Cursor.{words_behind}
use Rattle.reply_text.specs.Readers.{◌>>=◌, cell_in, cells_in}
use Rattle.reply_text.proofs.RowLemmas.{cell_read}
use Rattle.reply_text.proofs.rows.row_in.Goals as goal

pub loop-cells-preserved : goal.loop-cells-preserved
loop-cells-preserved c =
    let cells = c.loop-cells.cells.items in
    let is : cell_in c.loop-cells.word.now ≡ Some c.in-Some.cell = sym c.in_ok-cell.ensures ∙ c.in-Some.is in
    rw c.in_ok-push-in-Some.ensures.items (c.loop-cells.invariant ∙ cell_read c.loop-cells.word.now (words_behind c.loop-cells.rest.now) cells c.in-Some.cell is
    ∙ ap (λ words. cells_in words >>= λ more. Some ((cells ++ c.in-Some.cell ∷ []) ++ more)) c.in-Some-word_behind.ensures.some)
