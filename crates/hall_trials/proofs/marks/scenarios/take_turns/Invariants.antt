use Rattle.std.proofs.Common.{◌≡◌, ◌+◌, ◌≤◌, Some, length}
use Rattle.hall_cells.specs.Marks.{IsEmpty, open_of}
use Rattle.hall_rule.specs.EventLog.{replay}
use Rattle.hall_rule.specs.Meaning.{meaning}
use Rattle.hall_steps.specs.Hall.{IsPass, first_of}
use Rattle.hall_cells.specs.contracts.marks.MarksParts.TheImpl.{ghosts}
use Rattle.hall_trials.proofs.marks.scenarios.take_turns.Given as goal

abbrev pub invariant-loop-turn : goal.invariant-loop-turn
invariant-loop-turn g l = record {
  pass_one : IsPass (meaning ghosts l.hall.core l.hall.passes) l.hall.id l.one.seat l.one.hands;
  empty_one : IsEmpty (first_of l.one.hands);
  sessions_one : l.one.seat.me.0.sessions ≡ l.fn.one.seat.me.0.sessions;
  claim_one : l.one.seat.me.0.claim ≡ l.fn.one.seat.me.0.claim;
  few_one : length l.one.seat.me.0.mine ≤ length l.fn.one.seat.me.0.mine + 1 + l.turn-index;
  opened : open_of l.hall.shape (replay (meaning ghosts l.hall.core l.hall.passes) l.one.seat.me.0.log) 1 ≡ Some 1;
  pass_two : IsPass (meaning ghosts l.hall.core l.hall.passes) l.hall.id l.two.seat l.two.hands;
  empty_two : IsEmpty (first_of l.two.hands);
  sessions_two : l.two.seat.me.0.sessions ≡ l.fn.two.seat.me.0.sessions;
  claim_two : l.two.seat.me.0.claim ≡ l.fn.two.seat.me.0.claim;
  few_two : length l.two.seat.me.0.mine ≤ length l.fn.two.seat.me.0.mine + l.turn-index;
}
