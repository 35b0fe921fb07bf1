use Rattle.order_laws.proofs.Order.{sums-before, sums-not_after}
use Rattle.order_laws.proofs.side_laws.sums_before_and_not_after.Goals as goal

pub returns : goal.returns
returns c = λ f entries entry sides. (sums-before f entries entry sides, sums-not_after f entries entry sides)
