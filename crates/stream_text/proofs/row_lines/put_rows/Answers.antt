use Rattle.std.proofs.Common.{◌∙◌}
use Rattle.stream_text.proofs.RowLemmas.{row_next}
use Rattle.stream_text.proofs.row_lines.put_rows.Goals as goal

pub loop-i-preserved : goal.loop-i-preserved
loop-i-preserved c = row_next c.args.batch.now.rows c.loop-i.i c.in_ok-row.row c.loop-i.out.items c.put_row.new.out.items c.in_ok-row.ensures c.in_ok-put_row.ensures ∙ c.loop-i.invariant
