use Rattle.std.proofs.Common.{◌≡◌, ◌++◌, drop, map}
use Rattle.workload_spec.specs.ReplyText.{row_line}
use Rattle.workload_spec.specs.Words.{lines_text}
use Rattle.stream_text.proofs.row_lines.put_rows.Given as goal

-- the rows so far, and then those that are left
abbrev pub invariant-loop-i : goal.invariant-loop-i
invariant-loop-i l = l.out.items ++ lines_text (map row_line (drop l.i l.batch.rows)) ≡ l.initial.out.items ++ lines_text (map row_line l.batch.rows)
