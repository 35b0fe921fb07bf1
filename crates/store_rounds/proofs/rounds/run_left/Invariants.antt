use Rattle.std.proofs.Common.{◌≡◌, ◌++◌}
use Rattle.std.specs.Vec.Iter.{into_iter_items}
use Rattle.store_rounds.specs.Stations.{AreFree}
use Rattle.store_rounds.proofs.Looping.{Looping}
use Rattle.store_rounds.proofs.rounds.run_left.Given as goal

abbrev pub invariant-loop-round : goal.invariant-loop-round
invariant-loop-round g l = record {
  free : AreFree 0 l.desks l.stations;
  looping : Looping g.D.Disk.told g.D.Disk.moment g.D.Disk.left_since g.D.Disk.may_leave l.fn.script.value l.store l.row l.yielded (g.O.Sink.written l.fn.out) (g.O.Sink.written l.out)
      (g.X.Sink.written l.fn.outlet) (g.X.Sink.written l.outlet) l.number l.fn.disk l.disk l.fn.log l.log;
  split : l.yielded ++ into_iter_items l.round-iterator ≡ l.fn.script.value.rounds;
  kept_out : g.O.Sink.faults l.out ≡ g.O.Sink.faults l.fn.out;
  kept_export : g.X.Sink.faults l.outlet ≡ g.X.Sink.faults l.fn.outlet;
  kept_log : g.D.Disk.faults l.disk ≡ g.D.Disk.faults l.fn.disk;
  started : g.X.Sink.started l.outlet ≡ g.X.Sink.started l.fn.outlet;
  disk_started : g.D.Disk.started l.disk ≡ g.D.Disk.started l.fn.disk;
}
