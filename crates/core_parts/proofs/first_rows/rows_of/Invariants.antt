use Rattle.std.proofs.Common.{◌≡◌, map}
use Rattle.std.specs.Map.Iter.{deref_pair}
use Rattle.core_parts.specs.FirstRows.{keys_in, rows_at, rows_lent}
use Rattle.isolation_spec.specs.Contents.{contents_of}
use Rattle.core_parts.proofs.first_rows.rows_of.Given as goal

abbrev pub invariant-loop-place : goal.invariant-loop-place
invariant-loop-place l =
    (rows_lent l.rows.items ≡ contents_of l.table (rows_at (map deref_pair l.yielded)))
    × (map (λ row. row.key) l.rows.items ≡ keys_in l.table (rows_at (map deref_pair l.yielded)))
