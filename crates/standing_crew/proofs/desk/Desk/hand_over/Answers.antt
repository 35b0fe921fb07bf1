use Rattle.standing_crew.proofs.Steps.{may_hand_over}
use Rattle.standing_crew.proofs.desk.Desk.hand_over.Goals as goal

pub push_as-requires-clause-rule : goal.push_as-requires-clause-rule
push_as-requires-clause-rule g c =
    may_hand_over g.S.Service.may g.S.Service.does _ _ _ _ c.requires.client.knows c.requires.may
