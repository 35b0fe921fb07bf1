use Rattle.std.proofs.Common.{◌≡◌, ◌-◌, ◌^◌, vec_len}
use Rattle.program.proofs.Shown.{ShownSoFar}
use Rattle.program.proofs.showing.show.Given as goal

-- what was read so far is shown
abbrev pub invariant-loop-total : goal.invariant-loop-total
invariant-loop-total g l = record {
  room : vec_len l.piece ≡ 2 ^ 16;
  shown : ShownSoFar (g.S.Source.left l.initial.source) (g.S.Source.left l.source)
      (g.O.Sink.written l.initial.out) (g.O.Sink.written l.out) l.showing l.total;
  read_faults : g.S.Source.faults l.source ≡ g.S.Source.faults l.initial.source;
  out_faults : g.O.Sink.faults l.out ≡ g.O.Sink.faults l.initial.out;
}

abbrev pub decreases-loop-total : goal.decreases-loop-total
decreases-loop-total g l = 2 ^ 32 - l.total
