-- In front of what is left stand the records of the commits so far.
use Rattle.std.proofs.Common.{length}
use Rattle.commit_log.specs.Readings.{SoFar}
use Rattle.commit_log.proofs.reading.commits_in.Given as goal

abbrev pub invariant-loop-group : goal.invariant-loop-group
invariant-loop-group l = SoFar l.tables l.bytes l.reader l.commits.items

abbrev pub decreases-loop-group : goal.decreases-loop-group
decreases-loop-group l = length l.reader
