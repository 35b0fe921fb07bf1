use Rattle.std.proofs.Common.{◌≡◌, ◌≤◌, ◌+◌, map}
use Rattle.event_spec.specs.Parts.{below}
use Rattle.shared_store.specs.Keeping.{IsKeeping, beside_observe, rested}
use Rattle.shared_store.specs.Observing.{ObservesMore, observing}
use Rattle.shared_store.specs.Store.{events_made}
use Rattle.shared_store.proofs.store.Store.observe_table.Given as goal

abbrev pub invariant-loop-block : goal.invariant-loop-block
invariant-loop-block g l = record {
  keeping : IsKeeping l.fn.self (beside_observe l.fn.table) l.block l.session;
  made : events_made l.session ≡ events_made l.fn.session + l.block;
  few : l.turned ≤ l.block;
  observes : ObservesMore l.fn.self l.fn.session (rested l.session) (map (observing l.fn.table) (below l.block)) l.turned;
}
