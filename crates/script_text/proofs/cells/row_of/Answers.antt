use Rattle.std.proofs.Common.{rules, arith, ap, length, length-append, [], ◌∷◌, ◌∙◌}
use Rattle.word_read.specs.Cursor.{words_behind}
use Rattle.script_text.proofs.RowCells.{columns_at, cell_read}
use Rattle.script_text.proofs.cells.row_of.Goals as goal

pub returns-in_err-cell_of : goal.returns-in_err-cell_of
returns-in_err-cell_of c =
    let columns = c.args.columns.now in
    let at = columns_at columns c.loop-column.column-index c.column-item.result (omega arith) c.column-item.is in
    rw (c.loop-column.invariant.read, at, c.in-Some.ensures.some) (search rules)

pub loop-column-preserved : goal.loop-column-preserved
loop-column-preserved c =
    let columns = c.args.columns.now in
    let at = columns_at columns c.loop-column.column-index c.column-item.result (omega arith) c.column-item.is in
    record {
      read = rw c.in_ok-push-2.ensures.items (c.loop-column.invariant.read
          ∙ cell_read columns c.loop-column.column-index c.column-item.result (words_behind c.loop-column.rest.now) (words_behind c.in-Some.behind.now) c.in-Some.word.now c.loop-column.cells.items c.in_ok-cell_of.field-0 at c.in-Some.ensures.some c.in_ok-cell_of.ensures);
      taken = rw c.in_ok-push-2.ensures.items (omega (arith, c.loop-column.invariant.taken, ap length c.in-Some.ensures.some, length-append c.loop-column.cells.items (c.in_ok-cell_of.field-0 ∷ [])));
    }
