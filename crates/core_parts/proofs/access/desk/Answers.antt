use Rattle.std.proofs.Common.{Some, ap, ◌∙◌, sym}
use Rattle.core_parts.proofs.Placing.{found_there, lies, two_same}
use Rattle.core_parts.proofs.Telling.{a_desk}
use Rattle.event_spec.specs.declared.part.Part.TheVariants as part
use Rattle.event_spec.specs.Parts.{TheDesk}
use Rattle.core_parts.proofs.access.desk.Goals as goal

pub part-requires : goal.part-requires
part-requires c = let sh = c.args.shape.now in let hand = c.args.held.now in let x = a_desk sh hand c.requires in (part.Desk x.0, lies sh hand (TheDesk) c.desk.result (part.Desk x.0) c.desk.ensures.number x.1)

pub unreachable-requires : goal.unreachable-requires
unreachable-requires c = let sh = c.args.shape.now in let hand = c.args.held.now in let x = a_desk sh hand c.requires in c.in_default.not-Desk x.0 (two_same _ c.part.result.now (part.Desk x.0) c.part.ensures (lies sh hand (TheDesk) c.desk.result (part.Desk x.0) c.desk.ensures.number x.1))

pub returns : goal.returns
returns c = let sh = c.args.shape.now in let hand = c.args.held.now in found_there sh hand (TheDesk) c.desk.result c.part.result.now c.desk.ensures.number c.part.ensures ∙ ap Some (c.in-Desk.is ∙ ap part.Desk (sym c.get.ensures))
