use Rattle.std.proofs.Common.{◌≤◌, ◌+◌, ◌*◌, ◌^◌}
use Rattle.shared_store.specs.Observing.{Observes, observing}
use Rattle.shared_store.specs.Store.{events_made, shape_in}
use Rattle.shared_store.proofs.Swept.{at_tables}
use Rattle.shared_store.proofs.store.Store.observe.Given as goal

abbrev pub invariant-loop-table : goal.invariant-loop-table
invariant-loop-table g l =
    (l.turned ≤ 2 ^ 10 * l.table) × (events_made l.session ≤ events_made l.fn.session + 2 ^ 10 * l.table)
    × Observes l.fn.self l.fn.session l.session (at_tables (shape_in l.fn.self) observing l.table) l.turned
