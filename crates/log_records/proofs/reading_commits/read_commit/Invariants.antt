use Rattle.log_records.proofs.Sets.{CommitSoFar}
use Rattle.log_records.proofs.reading_commits.read_commit.Given as goal

abbrev pub invariant-loop-read : goal.invariant-loop-read
invariant-loop-read l = CommitSoFar l.tables l.count l._read l.writes.items l.fn.reader l.reader
