use Rattle.std.proofs.Common.{◌≡◌, map}
use Rattle.isolation_spec.specs.Reads.{first_stale, last_meeting}
use Rattle.isolation_spec.specs.declared.read.Read.TheVariants as read
use Rattle.si_machine.specs.Kept.{history_in}
use Rattle.si_machine.proofs.reads.stale_table.Given as goal

abbrev pub invariant-loop-table : goal.invariant-loop-table
invariant-loop-table l =
    first_stale (last_meeting (history_in l.commits) l.snapshot) (map read.Table l.table-iterator)
    ≡ first_stale (last_meeting (history_in l.commits) l.snapshot) (map read.Table l.initial.table-iterator)
