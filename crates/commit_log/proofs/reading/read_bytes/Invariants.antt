-- The bytes are those of the file's front, and only reads were made.
use Rattle.std.proofs.Common.{◌≡◌, ◌-◌, ◌<◌, length, take, vec_len}
use Rattle.std.specs.Option.{ForSome}
use Rattle.commit_log.specs.Readings.{OnlyReads}
use Rattle.commit_log.proofs.reading.read_bytes.Given as goal

abbrev pub invariant-loop-disk : goal.invariant-loop-disk
invariant-loop-disk g l = record {
  room : 0 < vec_len l.piece;
  front : ForSome (g.D.Disk.told l.initial.disk)
      (λ file. l.bytes.items ≡ take (length l.bytes.items) file);
  reads : OnlyReads g.D.Disk.told g.D.Disk.may_leave g.D.Disk.moment g.D.Disk.left_since
      l.initial.disk l.disk;
  started : g.D.Disk.started l.disk ≡ g.D.Disk.started l.initial.disk;
  kept : g.D.Disk.faults l.disk ≡ g.D.Disk.faults l.initial.disk;
}

abbrev pub decreases-loop-disk : goal.decreases-loop-disk
decreases-loop-disk g l = l.size - vec_len l.bytes
