use Rattle.std.proofs.Common.{◌≡◌, take}
use Rattle.output_read.proofs.RoundParts.{RoundsOn}
use Rattle.output_read.proofs.reader.Reader.all_lines.Given as goal

abbrev pub invariant-loop-round : goal.invariant-loop-round
invariant-loop-round l = record {
  number : l.number ≡ l.round-index;
  rounds : RoundsOn l.script l.fn.self l.self l.within.items l.number (take l.round-index l.script.rounds);
}
