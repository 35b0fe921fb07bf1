use Rattle.std.proofs.Common.{vec_len, ◌-◌, ◌<◌, ◌≡◌}
use Rattle.std.specs.Io.KnownBytes.{Consumes}
use Rattle.byte_ports.specs.Calls.{TellsAlike}
use Rattle.byte_ports.proofs.whole.read_to_end.Given as goal

abbrev pub invariant-loop-source : goal.invariant-loop-source
invariant-loop-source g l = record {
  room : 0 < vec_len l.piece;
  bytes : Consumes (g.S.Source.left l.initial.source) (g.S.Source.left l.source) l.bytes.items;
  told : TellsAlike (g.S.Source.left l.initial.source) (g.S.Source.left l.source);
  kept : g.S.Source.faults l.source ≡ g.S.Source.faults l.initial.source;
}

abbrev pub decreases-loop-source : goal.decreases-loop-source
decreases-loop-source g l = l.limit - vec_len l.bytes
