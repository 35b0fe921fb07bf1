use Rattle.std.proofs.Common.{◌≡◌}
use Rattle.std.specs.Prelude.{All}
use Rattle.compact_plan.specs.Laws.{IsLookAt}
use Rattle.event_spec.specs.Parts.{below}
use Rattle.shared_store.specs.Compacting.{Looks}
use Rattle.shared_store.specs.Store.{shape_in}
use Rattle.shared_store.proofs.Compacted.{blocks_in}
use Rattle.shared_store.proofs.store.Store.plan_table.Given as goal

abbrev pub invariant-loop-block : goal.invariant-loop-block
invariant-loop-block g l = record {
  looked : Looks l.fn.self l.fn.session l.session l.fn.table l.block l.looks.items;
  seen : All (IsLookAt (shape_in l.fn.self) l.fn.table) l.looks.items;
  blocks : blocks_in l.looks.items ≡ below l.block;
}
