use Rattle.std.proofs.Common.{◌≡◌, ◌<◌, ℕ, map}
use Rattle.std.specs.Map.Iter.{deref_pair}
use Rattle.event_spec.specs.Effects.{writes_table}
use Rattle.txn_desk.specs.Marks.{is_marked}
use Rattle.core_sweeps.proofs.committing.tables_written.Given as goal

abbrev pub invariant-loop-row : goal.invariant-loop-row
invariant-loop-row l = (table : ℕ) → table < 16 → is_marked l.tables table ≡ writes_table (map deref_pair l.yielded) table
