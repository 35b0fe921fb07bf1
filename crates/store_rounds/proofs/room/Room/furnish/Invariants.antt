use Rattle.store_rounds.specs.Stations.{IsFurnished}
use Rattle.store_rounds.proofs.room.Room.furnish.Given as goal

abbrev pub invariant-loop-stand_in : goal.invariant-loop-stand_in
invariant-loop-stand_in l = IsFurnished l.room.desks.items l.room.stations.items l.room.helpers.items
