use Rattle.order_laws.proofs.Order.{sides-before, sides-not_after, sides-after}
use Rattle.order_laws.proofs.side_laws.replies_stand_before_and_after.Goals as goal

pub returns : goal.returns
returns c = λ entries entry sides. (sides-before entries entry sides, sides-not_after entries entry sides, sides-after entries entry sides)
