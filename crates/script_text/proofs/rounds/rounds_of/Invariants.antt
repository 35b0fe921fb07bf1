use Rattle.std.proofs.Common.{◌≡◌, ◌+◌, ◌≤◌, false, length}
use Rattle.workload_spec.specs.Words.{line_feed}
use Rattle.workload_spec.specs.Reading.{parts}
use Rattle.workload_spec.specs.Grammar.{rounds_from}
use Rattle.script_text.proofs.RoundLines.{Read}
use Rattle.script_text.proofs.rounds.rounds_of.Given as goal

abbrev pub invariant-loop-line : goal.invariant-loop-line
invariant-loop-line l = record {
  numbered : l.at + length l.rest ≤ l.first + length l.bytes;
  read : rounds_from l.extent l.tables l.sessions l.first false (parts line_feed l.bytes) ≡ Read l.extent l.tables l.sessions l.at l.exported (parts line_feed l.rest) l.rounds.items l.lines.items;
}

abbrev pub decreases-loop-line : goal.decreases-loop-line
decreases-loop-line l = length l.rest
