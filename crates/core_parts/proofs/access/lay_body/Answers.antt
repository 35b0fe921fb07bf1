use Rattle.std.proofs.Common.{Some, ap, ◌∙◌, arith}
use Rattle.core_parts.proofs.Placing.{laid_is, named_once, number_less}
use Rattle.core_parts.specs.Hands.{laid_at}
use Rattle.event_spec.specs.declared.part.Part.TheVariants as part
use Rattle.event_spec.specs.Parts.{BodyOf, names}
use Rattle.core_parts.proofs.access.lay_body.Goals as goal

pub replace-requires : goal.replace-requires
replace-requires c = let less = number_less c.args.shape.now (BodyOf c.args.table c.args.block) c.body.result c.body.ensures in let room = c.requires.room in omega (arith, less, room)

pub returns : goal.returns
returns c = c.replace.ensures.others ∙ laid_is (names c.args.shape.now) c.args.held.now (BodyOf c.args.table c.args.block) c.body.result (Some (part.Body c.of.result)) (named_once c.args.shape.now) c.body.ensures ∙ ap (λ x. laid_at (names c.args.shape.now) (BodyOf c.args.table c.args.block) (Some (part.Body x)) c.args.held.now) c.of.ensures
