use Rattle.std.proofs.Common.{◌≤◌, ◌+◌, ◌*◌, ◌^◌, ◌∷◌}
use Rattle.event_spec.specs.declared.event.Event.TheVariants as event
use Rattle.shared_store.specs.Pruning.{KnowsOldest, Prunes, pruning}
use Rattle.shared_store.specs.Store.{events_made, shape_in}
use Rattle.shared_store.proofs.Swept.{at_tables}
use Rattle.shared_store.proofs.store.Store.prune.Given as goal

abbrev pub invariant-loop-table : goal.invariant-loop-table
invariant-loop-table g l = record {
  oldest : KnowsOldest l.fn.self l.session l.oldest;
  made : events_made l.session ≤ events_made l.fn.session + 1 + 2 ^ 10 * l.table;
  few : l.dropped ≤ 2 ^ 56 * l.table;
  prunes : Prunes l.fn.self l.oldest l.fn.session l.session (event.Oldest ∷ at_tables (shape_in l.fn.self) (pruning l.oldest) l.table) l.dropped;
}
