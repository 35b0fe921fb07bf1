use Rattle.std.proofs.Common.{◌≡◌, ◌≤◌}
use Rattle.std.specs.Prelude.{IfErr}
use Rattle.store_rounds.proofs.WorkerTurns.{Turning}
use Rattle.store_rounds.specs.declared.fault.RunFault.TheVariants as fault
use Rattle.store_rounds.proofs.turning.make_turns.Given as goal

abbrev pub invariant-loop-made : goal.invariant-loop-made
invariant-loop-made g l = record {
  turning : Turning l.store l.fn.lines.round l.worker l.fn.session l.session l.fn.lines.text.items l.lines.text.items l.shown l.made;
  round : l.lines.round ≡ l.fn.lines.round;
  high : l.made ≤ l.turns;
  memory : IfErr l.shown (λ failed. failed ≡ fault.Memory);
}
