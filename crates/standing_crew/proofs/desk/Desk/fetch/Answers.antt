use Rattle.std.proofs.Common.{◌∙◌, rules}
use Rattle.standing_crew.proofs.Steps.{got_back, may_get_back}
use Rattle.standing_crew.proofs.desk.Desk.fetch.Goals as goal

pub pop_as-requires-clause-rule : goal.pop_as-requires-clause-rule
pop_as-requires-clause-rule g c =
    may_get_back g.S.Service.may g.S.Service.does _ _ c.requires.0 (c.loop.invariant.3 ∙ c.requires.1.knows)
