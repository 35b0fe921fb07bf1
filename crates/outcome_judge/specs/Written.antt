-- The places that are written.
use Rattle.std.specs.Prelude.{Bool, false, Option, option_map}
use Rattle.std.specs.Option.{option_map_or}
use Rattle.isolation_spec.specs.Contents.{is_place}
use Rattle.isolation_spec.specs.declared.place.Place.{Place}
use Rattle.workload_spec.specs.declared.command.Command.{Command}
use Rattle.outcome_spec.specs.Entries.{Entry}
use Rattle.outcome_spec.specs.Runs.{write_of, accepted_write}

-- the place that a command writes, and the one that a reply accepts a write of
abbrev pub place_written : Command → Option Place
place_written asked = option_map (λ write. write.0) (write_of asked)

abbrev pub written_by : Entry → Option Place
written_by entry = option_map (λ write. write.0) (accepted_write entry)

-- the reply accepts a write of the place
abbrev pub writes_to : Place → Entry → Bool
writes_to place entry = option_map_or (λ write. is_place write.0 place) (accepted_write entry) false
