use Rattle.std.proofs.Common.{◌≡◌, ◌≤◌, ◌+◌, ◌*◌, ◌^◌, map}
use Rattle.event_spec.specs.Parts.{below}
use Rattle.shared_store.specs.Keeping.{IsKeeping, beside_prune, rested}
use Rattle.shared_store.specs.Pruning.{KnowsOldest, PrunesMore, pruning}
use Rattle.shared_store.specs.Store.{events_made}
use Rattle.shared_store.proofs.store.Store.prune_table.Given as goal

abbrev pub invariant-loop-block : goal.invariant-loop-block
invariant-loop-block g l = record {
  keeping : IsKeeping l.fn.self (beside_prune l.fn.table) l.block l.session;
  oldest : KnowsOldest l.fn.self l.session l.fn.oldest;
  made : events_made l.session ≡ events_made l.fn.session + l.block;
  few : l.dropped ≤ 2 ^ 46 * l.block;
  prunes : PrunesMore l.fn.self l.fn.oldest l.fn.session (rested l.session) (map (pruning l.fn.oldest l.fn.table) (below l.block)) l.dropped;
}
