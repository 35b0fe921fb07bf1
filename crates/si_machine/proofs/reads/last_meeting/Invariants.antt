use Rattle.std.proofs.Common.{◌≡◌}
use Rattle.isolation_spec.specs.Reads.{meets}
use Rattle.si_machine.specs.Kept.{history_in}
use Rattle.si_machine.proofs.Meetings.{last_up_to}
use Rattle.si_machine.proofs.reads.last_meeting.Given as goal

abbrev pub invariant-loop-number : goal.invariant-loop-number
invariant-loop-number l = l.last ≡ last_up_to (history_in l.commits) l.snapshot (meets l.what) l.number
