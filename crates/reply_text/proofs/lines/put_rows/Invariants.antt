use Rattle.std.proofs.Common.{◌≡◌, ◌++◌, drop, map}
use Rattle.workload_spec.specs.Words.{lines_text}
use Rattle.workload_spec.specs.ReplyText.{row_line}
use Rattle.reply_text.proofs.lines.put_rows.Given as goal

abbrev pub invariant-loop-row : goal.invariant-loop-row
invariant-loop-row l = l.out.items ++ lines_text (map row_line (drop l.row-index l.rows)) ≡ l.initial.out.items ++ lines_text (map row_line l.rows)
