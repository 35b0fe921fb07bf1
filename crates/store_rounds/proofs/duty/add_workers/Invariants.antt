use Rattle.std.proofs.Common.{◌≤◌}
use Rattle.store_rounds.specs.Duties.{AreWithWorkers}
use Rattle.store_rounds.proofs.duty.add_workers.Given as goal

abbrev pub invariant-loop-at : goal.invariant-loop-at
invariant-loop-at l = record {
  duties : AreWithWorkers l.crew l.number l.«at» l.fn.duties.items l.duties.items;
  high : l.«at» ≤ l.crew.workers;
}
