use Rattle.std.proofs.Common.{arith}
use Rattle.core_events.proofs.Places.{next_among}
use Rattle.core_events.proofs.finds.current.Goals as goal

pub has_row-requires : goal.has_row-requires
has_row-requires c = c.requires c.place-item.result (next_among c.args.places.now c.loop-place.place-index c.place-item.result (omega arith) c.place-item.is)

pub returns-then-has_row-clause-there : goal.returns-then-has_row-clause-there
returns-then-has_row-clause-there c = c.requires c.place-item.result (next_among c.args.places.now c.loop-place.place-index c.place-item.result (omega arith) c.place-item.is)
