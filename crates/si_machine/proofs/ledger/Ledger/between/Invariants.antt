use Rattle.std.proofs.Common.{◌≡◌, ◌++◌}
use Rattle.std.specs.List.{filter_map}
use Rattle.isolation_spec.specs.Contents.{at_place}
use Rattle.isolation_spec.specs.Machine.{seen_rows}
use Rattle.si_machine.specs.declared.ledger.OpenTransaction.{OpenTransaction}
use Rattle.si_machine.specs.Kept.{machine_in, open_at}
use Rattle.si_machine.proofs.ledger.Ledger.between.Given as goal

abbrev pub invariant-loop-place : goal.invariant-loop-place
invariant-loop-place l = (none : OpenTransaction) →
    l.rows.items ++ filter_map (λ entry. at_place (seen_rows (machine_in l.self) (open_at l.self l.at none)) entry.0) l.place-iterator
    ≡ filter_map (λ entry. at_place (seen_rows (machine_in l.self) (open_at l.self l.at none)) entry.0) l.initial.place-iterator
