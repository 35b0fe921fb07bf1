use Rattle.std.proofs.Common.{◌≡◌, false, Some}
use Rattle.event_spec.specs.declared.own.OwnTransaction.{OwnTransaction}
use Rattle.shared_store.specs.Store.{own_of}
use Rattle.store_export.proofs.Course.{Sending}
use Rattle.store_export.proofs.table.send_table.Given as goal

abbrev pub invariant-loop-block : goal.invariant-loop-block
invariant-loop-block g l = record {
  sending : (own : OwnTransaction) → own_of l.fn.session ≡ Some own → Sending l.store l.fn.session l.session own l.table l.block
      (g.W.Sink.written l.fn.writer.sink) (g.W.Sink.written l.writer.sink) l.sent l.fn.steps l.steps;
  first : l.fn.writer.failed ≡ false;
  fresh : l.writer.failed ≡ false;
  started : g.W.Sink.started l.writer.sink ≡ g.W.Sink.started l.fn.writer.sink;
  loan : g.W.Sink.loan l.writer.sink ≡ g.W.Sink.loan l.fn.writer.sink;
  kept : g.W.Sink.faults l.writer.sink ≡ g.W.Sink.faults l.fn.writer.sink;
}
