use Rattle.standing_crew.proofs.Steps.{may_put_back, may_take, taken}
use Rattle.standing_crew.proofs.desk.Desk.help.Goals as goal

pub pop_as-requires-clause-rule : goal.pop_as-requires-clause-rule
pop_as-requires-clause-rule g c = may_take g.S.Service.may g.S.Service.does _ _ c.requires.knows

pub done_with-done-requires-after_bounds : goal.done_with-done-requires-after_bounds
done_with-done-requires-after_bounds g c κs within =
    (taken g.S.Service.may g.S.Service.does _ _ _ c.requires.knows c.in-Some.ensures.rule).1

pub push_as-requires-clause-rule : goal.push_as-requires-clause-rule
push_as-requires-clause-rule g c = may_put_back g.S.Service.may g.S.Service.does _ _ _ c.in-Some.item _
    (taken g.S.Service.may g.S.Service.does _ _ _ c.requires.knows c.in-Some.ensures.rule).0
    c.done_with-done.ensures
