use Rattle.std.proofs.Common.{Some, ap, ◌∙◌, sym}
use Rattle.core_parts.proofs.Placing.{found_there, lies, two_same}
use Rattle.core_parts.proofs.Telling.{a_body, body_there}
use Rattle.event_spec.specs.declared.part.Part.TheVariants as part
use Rattle.event_spec.specs.Parts.{BodyOf}
use Rattle.core_parts.proofs.access.body.Goals as goal

pub body-requires : goal.body-requires
body-requires c = let sh = c.args.shape.now in let hand = c.args.held.now in body_there sh hand c.args.table c.args.block c.requires

pub part-requires : goal.part-requires
part-requires c = let sh = c.args.shape.now in let hand = c.args.held.now in let x = a_body sh hand c.args.table c.args.block c.requires in (part.Body x.0, lies sh hand (BodyOf c.args.table c.args.block) c.body.result (part.Body x.0) c.body.ensures x.1)

pub unreachable-requires : goal.unreachable-requires
unreachable-requires c = let sh = c.args.shape.now in let hand = c.args.held.now in let x = a_body sh hand c.args.table c.args.block c.requires in c.in_default.not-Body x.0 (two_same _ c.part.result.now (part.Body x.0) c.part.ensures (lies sh hand (BodyOf c.args.table c.args.block) c.body.result (part.Body x.0) c.body.ensures x.1))

pub returns : goal.returns
returns c = let sh = c.args.shape.now in let hand = c.args.held.now in found_there sh hand (BodyOf c.args.table c.args.block) c.body.result c.part.result.now c.body.ensures c.part.ensures ∙ ap Some (c.in-Body.is ∙ ap part.Body (sym c.get.ensures))
