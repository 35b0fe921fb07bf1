use Rattle.std.proofs.Common.{rules}
use Rattle.standing_crew.proofs.Crews.{first_helper, other_helpers}
use Rattle.standing_crew.proofs.crew.+crew.Goals as goal

pub join_mut-requires-after_bounds : goal.join_mut-requires-after_bounds
join_mut-requires-after_bounds g t c κs within =
    let desks_are = c.in-Some-split_first.ensures.cases.0 in
    let helpers_are = c.in-Some.ensures.cases.0 in
    let first = first_helper _ _ _ _ _ _ desks_are helpers_are c.requires.helpers in
    let others = other_helpers _ _ _ _ _ _ desks_are helpers_are c.requires.helpers in
    search (rules, first, others)
