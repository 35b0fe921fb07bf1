use Rattle.std.proofs.Common.{◌≡◌, ◌-◌, filter, map}
use Rattle.std.specs.List.{range_with_len}
use Rattle.core_events.specs.Stale.{newest_at}
use Rattle.event_spec.specs.Parts.{Parts}
use Rattle.hall_rule.specs.Hands.{Agrees}
use Rattle.isolation_spec.specs.declared.read.Read.TheVariants as read
use Rattle.isolation_spec.specs.Reads.{first_stale}
use Rattle.txn_desk.specs.Marks.{is_marked, marked_tables}
use Rattle.core_events.proofs.stale.stale_table.Given as goal

abbrev pub invariant-loop-table : goal.invariant-loop-table
invariant-loop-table l = (s : Parts) → Agrees l.fn.held s
    → first_stale (newest_at l.fn.shape s l.fn.snapshot) (map read.Table (filter (is_marked l.fn.tables) (range_with_len l.table (16 - l.table))))
    ≡ first_stale (newest_at l.fn.shape s l.fn.snapshot) (map read.Table (marked_tables l.fn.tables))
