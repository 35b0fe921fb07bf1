use Rattle.std.proofs.Common.{◌∙◌, sym}
use Rattle.core_parts.proofs.Numbered.{offered_there}
use Rattle.event_spec.specs.Parts.{TheDesk}
use Rattle.core_parts.proofs.offers.offer_desk.Goals as goal

pub returns : goal.returns
returns c = c.offer.ensures ∙ sym (offered_there c.args.shape.now c.args.least.now TheDesk c.desk.result c.desk.ensures.number)
