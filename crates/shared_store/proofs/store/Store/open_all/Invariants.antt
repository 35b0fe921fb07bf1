use Rattle.std.proofs.Common.{◌-◌}
use Rattle.std.specs.Prelude.{All}
use Rattle.shared_store.specs.Building.{HasSessions, StartsKeeping}
use Rattle.shared_store.proofs.Rows.{IsRowDown}
use Rattle.shared_store.proofs.store.Store.open_all.Given as goal

abbrev pub invariant-loop-opened : goal.invariant-loop-opened
invariant-loop-opened l = record {
  has : HasSessions l.self (l.count - l.opened) l.pass.seat l.pass.hands;
  row : IsRowDown l.self l.count l.opened l.row.items;
  keeps : All (StartsKeeping l.keeps) l.row.items;
}
