use Rattle.std.proofs.Common.{◌≡◌, ◌<◌, ◌^◌, ◌++◌, length}
use Rattle.std.specs.Prelude.{IfErr}
use Rattle.std.specs.Vec.Iter.{into_iter_items}
use Rattle.store_rounds.specs.declared.fault.RunFault.TheVariants as fault
use Rattle.store_rounds.proofs.Turns.{Turn}
use Rattle.store_rounds.proofs.work.carry_out_all.Given as goal

abbrev pub invariant-loop-command : goal.invariant-loop-command
invariant-loop-command g l = record {
  turn : Turn l.store l.fn.lines.round l.fn.session l.session l.yielded l.fn.lines.text.items l.lines.text.items l.shown
      (g.X.Sink.written l.fn.outlet) (g.X.Sink.written l.outlet) l.index;
  round : l.lines.round ≡ l.fn.lines.round;
  split : l.yielded ++ into_iter_items l.command-iterator ≡ l.fn.commands.items;
  few : length l.fn.commands.items < 2 ^ 63;
  memory : IfErr l.shown (λ failed. failed ≡ fault.Memory);
  kept : g.X.Sink.faults l.outlet ≡ g.X.Sink.faults l.fn.outlet;
  started : g.X.Sink.started l.outlet ≡ g.X.Sink.started l.fn.outlet;
}
