use Rattle.std.proofs.Common.{◌≡◌, ◌≤◌, take}
use Rattle.std.specs.Prelude.{flat_map}
use Rattle.arrow_spec.specs.Bytes.{padded}
use Rattle.byte_ports.specs.Calls.{TellsAlike}
use Rattle.ipc_write.specs.Calls.{WroteAll}
use Rattle.ipc_write.proofs.writer.Writer.buffers.Given as goal

abbrev pub invariant-loop-buffer : goal.invariant-loop-buffer
invariant-loop-buffer g l = record {
  wrote : WroteAll g.W.Sink.written g.W.Sink.faults l.initial.self l.self (flat_map padded (take l.buffer-index l.buffers));
  told : TellsAlike (g.W.Sink.written l.initial.self.sink) (g.W.Sink.written l.self.sink);
  started : g.W.Sink.started l.self.sink ≡ g.W.Sink.started l.initial.self.sink;
  loan : g.W.Sink.loan l.self.sink ≡ g.W.Sink.loan l.initial.self.sink;
  counted : g.W.Sink.faults l.initial.self.sink ≤ g.W.Sink.faults l.self.sink;
}
