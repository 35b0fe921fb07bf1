use Rattle.std.proofs.Common.{◌≡◌, ◌++◌}
use Rattle.std.specs.Vec.Iter.{into_iter_items}
use Rattle.store_rounds.specs.Duties.{AreOfSessions}
use Rattle.store_rounds.proofs.duty.session_duties.Given as goal

abbrev pub invariant-loop-agenda : goal.invariant-loop-agenda
invariant-loop-agenda l = record {
  duties : AreOfSessions l.number l.yielded l.duties.items;
  split : l.yielded ++ into_iter_items l.agenda-iterator ≡ l.fn.agendas.items;
}
