use Rattle.std.proofs.Common.{◌≡◌, take}
use Rattle.core_parts.specs.FirstRows.{rows_at}
use Rattle.isolation_spec.specs.Contents.{laid_over}
use Rattle.core_parts.proofs.first_rows.lay_over.Given as goal

abbrev pub invariant-loop-place : goal.invariant-loop-place
invariant-loop-place l = rows_at l.last.entries ≡ laid_over (rows_at l.fn.last.entries) (take l.place-index l.place-items)
