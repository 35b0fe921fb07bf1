use Rattle.std.proofs.Common.{◌≡◌, ◌+◌, ◌≤◌, length}
use Rattle.hall_cells.specs.Marks.{IsEmpty}
use Rattle.hall_rule.specs.Meaning.{meaning}
use Rattle.hall_steps.specs.Hall.{IsPass, first_of}
use Rattle.hall_cells.specs.contracts.marks.MarksParts.TheImpl.{ghosts}
use Rattle.hall_trials.proofs.marks.scenarios.raise_often.Given as goal

abbrev pub invariant-loop-at : goal.invariant-loop-at
invariant-loop-at g l = record {
  pass : IsPass (meaning ghosts l.hall.core l.hall.passes) l.hall.id l.pass.seat l.pass.hands;
  empty : IsEmpty (first_of l.pass.hands);
  sessions : l.pass.seat.me.0.sessions ≡ l.fn.pass.seat.me.0.sessions;
  claim : l.pass.seat.me.0.claim ≡ l.fn.pass.seat.me.0.claim;
  few : length l.pass.seat.me.0.mine ≤ length l.fn.pass.seat.me.0.mine + l._at;
}
