use Rattle.std.proofs.Common.{◌≤◌, length}
use Rattle.script_text.proofs.Partings.{Passed}
use Rattle.script_text.proofs.checking.split_parting.Given as goal

abbrev pub invariant-loop-line : goal.invariant-loop-line
invariant-loop-line l = record {
  passed : Passed l.bytes l.rest;
  within : length l.rest ≤ length l.bytes;
}

abbrev pub decreases-loop-line : goal.decreases-loop-line
decreases-loop-line l = length l.rest
