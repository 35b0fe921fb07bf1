use Rattle.std.proofs.Common.{length, take, ◌-◌, ◌≡◌, ◌≤◌}
use Rattle.std.specs.Io.KnownBytes.{Appends}
use Rattle.byte_ports.specs.Calls.{TellsAlike}
use Rattle.byte_ports.proofs.whole.write_all.Given as goal

abbrev pub invariant-loop-at : goal.invariant-loop-at
invariant-loop-at g l = record {
  within : l.at ≤ length l.piece;
  bytes : Appends (g.S.Sink.written l.initial.sink) (g.S.Sink.written l.sink) (take l.at l.piece);
  told : TellsAlike (g.S.Sink.written l.initial.sink) (g.S.Sink.written l.sink);
  started : g.S.Sink.started l.sink ≡ g.S.Sink.started l.initial.sink;
  loan : g.S.Sink.loan l.sink ≡ g.S.Sink.loan l.initial.sink;
  kept : g.S.Sink.faults l.sink ≡ g.S.Sink.faults l.initial.sink;
}

abbrev pub decreases-loop-at : goal.decreases-loop-at
decreases-loop-at g l = length l.piece - l.at
