use Rattle.std.proofs.Common.{Some, None, ap, ◌∙◌, sym}
use Rattle.core_parts.proofs.Placing.{found_there, laid_is, lies, named_once, two_same}
use Rattle.core_parts.proofs.Telling.{a_body, body_there}
use Rattle.event_spec.specs.declared.part.Part.TheVariants as part
use Rattle.event_spec.specs.Parts.{BodyOf, names}
use Rattle.core_parts.proofs.access.take_body.Goals as goal

pub body-requires : goal.body-requires
body-requires c = let sh = c.args.shape.now in let hand = c.args.held.now in body_there sh hand c.args.table c.args.block c.requires

pub take-requires : goal.take-requires
take-requires c = let sh = c.args.shape.now in let hand = c.args.held.now in let x = a_body sh hand c.args.table c.args.block c.requires in (part.Body x.0, lies sh hand (BodyOf c.args.table c.args.block) c.body.result (part.Body x.0) c.body.ensures x.1)

pub unreachable-requires : goal.unreachable-requires
unreachable-requires c = let sh = c.args.shape.now in let hand = c.args.held.now in let x = a_body sh hand c.args.table c.args.block c.requires in c.in_default.not-Body x.0 (two_same _ c.take.result (part.Body x.0) c.take.ensures.part (lies sh hand (BodyOf c.args.table c.args.block) c.body.result (part.Body x.0) c.body.ensures x.1))

pub returns-clause-part : goal.returns-clause-part
returns-clause-part c = let sh = c.args.shape.now in let hand = c.args.held.now in found_there sh hand (BodyOf c.args.table c.args.block) c.body.result c.take.result c.body.ensures c.take.ensures.part ∙ ap Some (c.in-Body.is ∙ ap part.Body (sym c.into_box.ensures))

pub returns-clause-taken : goal.returns-clause-taken
returns-clause-taken c = let sh = c.args.shape.now in let hand = c.args.held.now in c.take.ensures.taken ∙ laid_is (names sh) hand (BodyOf c.args.table c.args.block) c.body.result None (named_once sh) c.body.ensures
