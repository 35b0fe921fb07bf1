use Rattle.log_records.proofs.Sets.{GroupSoFar}
use Rattle.log_records.proofs.reading_commits.read_commits.Given as goal

abbrev pub invariant-loop-read : goal.invariant-loop-read
invariant-loop-read l = GroupSoFar l.tables l.count l._read l.commits.items l.fn.reader l.reader
