use Rattle.std.proofs.Common.{Some, None, ap, ◌∙◌, sym}
use Rattle.core_parts.proofs.Placing.{found_there, laid_is, lies, named_once, two_same}
use Rattle.core_parts.proofs.Telling.{a_desk}
use Rattle.event_spec.specs.declared.part.Part.TheVariants as part
use Rattle.event_spec.specs.Parts.{TheDesk, names}
use Rattle.core_parts.proofs.access.take_desk.Goals as goal

pub take-requires : goal.take-requires
take-requires c = let sh = c.args.shape.now in let hand = c.args.held.now in let x = a_desk sh hand c.requires in (part.Desk x.0, lies sh hand (TheDesk) c.desk.result (part.Desk x.0) c.desk.ensures.number x.1)

pub unreachable-requires : goal.unreachable-requires
unreachable-requires c = let sh = c.args.shape.now in let hand = c.args.held.now in let x = a_desk sh hand c.requires in c.in_default.not-Desk x.0 (two_same _ c.take.result (part.Desk x.0) c.take.ensures.part (lies sh hand (TheDesk) c.desk.result (part.Desk x.0) c.desk.ensures.number x.1))

pub returns-clause-part : goal.returns-clause-part
returns-clause-part c = let sh = c.args.shape.now in let hand = c.args.held.now in found_there sh hand (TheDesk) c.desk.result c.take.result c.desk.ensures.number c.take.ensures.part ∙ ap Some (c.in-Desk.is ∙ ap part.Desk (sym c.into_box.ensures))

pub returns-clause-taken : goal.returns-clause-taken
returns-clause-taken c = let sh = c.args.shape.now in let hand = c.args.held.now in c.take.ensures.taken ∙ laid_is (names sh) hand (TheDesk) c.desk.result None (named_once sh) c.desk.ensures.number
