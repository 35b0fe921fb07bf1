use Rattle.std.proofs.Common.{◌≡◌, map}
use Rattle.isolation_spec.specs.Reads.{first_stale, last_meeting}
use Rattle.isolation_spec.specs.declared.place.Place.{Place}
use Rattle.isolation_spec.specs.declared.read.Read.TheVariants as read
use Rattle.si_machine.specs.Kept.{history_in}
use Rattle.si_machine.proofs.reads.stale_key.Given as goal

abbrev pub invariant-loop-place : goal.invariant-loop-place
invariant-loop-place l =
    first_stale (last_meeting (history_in l.commits) l.snapshot) (map (λ (place : Place). read.Key place.table place.key) l.place-iterator)
    ≡ first_stale (last_meeting (history_in l.commits) l.snapshot) (map (λ (place : Place). read.Key place.table place.key) l.initial.place-iterator)
