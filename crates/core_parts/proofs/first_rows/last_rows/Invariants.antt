use Rattle.std.proofs.Common.{◌≡◌, [], fold, take}
use Rattle.core_parts.specs.FirstRows.{rows_at}
use Rattle.isolation_spec.specs.Contents.{laid_over}
use Rattle.core_parts.proofs.first_rows.last_rows.Given as goal

abbrev pub invariant-loop-writes : goal.invariant-loop-writes
invariant-loop-writes l = rows_at l.last.entries ≡ fold laid_over [] (take l.writes-index l.first)
