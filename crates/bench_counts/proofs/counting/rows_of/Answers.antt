use Rattle.std.proofs.Common.{sym, ◌∙◌}
use Rattle.workload_spec.specs.Reading.{parts}
use Rattle.workload_spec.specs.Words.{line_feed}
use Rattle.bench_counts.proofs.Rows.{rows_small}
use Rattle.bench_counts.proofs.counting.rows_of.Goals as goal

pub returns-clause-small : goal.returns-clause-small
returns-clause-small c = rows_small (parts line_feed c.args.lines.now) c.in-Some.rows (sym c.in_ok-rows.ensures ∙ c.in-Some.is)
