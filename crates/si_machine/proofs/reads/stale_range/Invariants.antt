use Rattle.std.proofs.Common.{◌≡◌, drop, map}
use Rattle.isolation_spec.specs.Reads.{first_stale, last_meeting}
use Rattle.isolation_spec.specs.declared.read.KeyRange.{KeyRange}
use Rattle.isolation_spec.specs.declared.read.Read.TheVariants as read
use Rattle.si_machine.specs.Kept.{history_in}
use Rattle.si_machine.proofs.reads.stale_range.Given as goal

abbrev pub invariant-loop-range : goal.invariant-loop-range
invariant-loop-range l =
    first_stale (last_meeting (history_in l.commits) l.snapshot) (map (λ (range : KeyRange). read.Range range.table range.low range.high) (drop l.range-index l.ranges))
    ≡ first_stale (last_meeting (history_in l.commits) l.snapshot) (map (λ (range : KeyRange). read.Range range.table range.low range.high) l.ranges)
