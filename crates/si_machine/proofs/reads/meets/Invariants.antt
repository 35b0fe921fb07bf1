use Rattle.std.proofs.Common.{◌≡◌}
use Rattle.std.specs.List.{list_any}
use Rattle.si_machine.specs.Met.{is_met_at}
use Rattle.si_machine.proofs.reads.meets.Given as goal

abbrev pub invariant-loop-place : goal.invariant-loop-place
invariant-loop-place l = list_any (is_met_at l.what) l.place-iterator ≡ list_any (is_met_at l.what) l.initial.place-iterator
