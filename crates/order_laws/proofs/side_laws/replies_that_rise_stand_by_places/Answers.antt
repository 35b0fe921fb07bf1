use Rattle.order_laws.proofs.Places.{by-places}
use Rattle.order_laws.proofs.side_laws.replies_that_rise_stand_by_places.Goals as goal

pub returns : goal.returns
returns c = by-places
