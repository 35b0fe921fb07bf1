use Rattle.std.proofs.Common.{◌≡◌, ◌≤◌, take}
use Rattle.std.specs.Prelude.{flat_map}
use Rattle.byte_ports.specs.Calls.{TellsAlike}
use Rattle.ipc_message.specs.Messages.{bytes_of}
use Rattle.ipc_write.specs.Calls.{WroteAll}
use Rattle.ipc_write.proofs.writer.Writer.messages.Given as goal

abbrev pub invariant-loop-message : goal.invariant-loop-message
invariant-loop-message g l = record {
  wrote : WroteAll g.W.Sink.written g.W.Sink.faults l.initial.self l.self (flat_map bytes_of (take l.message-index l.messages));
  told : TellsAlike (g.W.Sink.written l.initial.self.sink) (g.W.Sink.written l.self.sink);
  started : g.W.Sink.started l.self.sink ≡ g.W.Sink.started l.initial.self.sink;
  loan : g.W.Sink.loan l.self.sink ≡ g.W.Sink.loan l.initial.self.sink;
  counted : g.W.Sink.faults l.initial.self.sink ≤ g.W.Sink.faults l.self.sink;
}
