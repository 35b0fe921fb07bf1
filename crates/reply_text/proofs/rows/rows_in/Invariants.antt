use Rattle.std.proofs.Common.{◌≡◌, ◌++◌, length}
use Rattle.std.specs.Prelude.{Some}
use Rattle.workload_spec.specs.Words.{line_feed}
use Rattle.workload_spec.specs.Reading.{parts}
use Rattle.reply_text.specs.Readers.{◌>>=◌, rows_in}
use Rattle.reply_text.proofs.rows.rows_in.Given as goal

abbrev pub invariant-loop-line : goal.invariant-loop-line
invariant-loop-line l = rows_in (parts line_feed l.lines) ≡ (rows_in (parts line_feed l.rest) >>= λ more. Some (l.rows.items ++ more))

abbrev pub decreases-loop-line : goal.decreases-loop-line
decreases-loop-line l = length l.rest
