use Rattle.std.proofs.Common.{Some, ap, ◌∙◌, sym}
use Rattle.core_parts.proofs.Placing.{found_there, lies, two_same}
use Rattle.core_parts.proofs.Telling.{a_head, head_there}
use Rattle.event_spec.specs.declared.part.Part.TheVariants as part
use Rattle.event_spec.specs.Parts.{HeadOf}
use Rattle.core_parts.proofs.access.head.Goals as goal

pub head-requires : goal.head-requires
head-requires c = let sh = c.args.shape.now in let hand = c.args.held.now in head_there sh hand c.args.table c.requires

pub part-requires : goal.part-requires
part-requires c = let sh = c.args.shape.now in let hand = c.args.held.now in let x = a_head sh hand c.args.table c.requires in (part.Head x.0, lies sh hand (HeadOf c.args.table) c.head.result (part.Head x.0) c.head.ensures x.1)

pub unreachable-requires : goal.unreachable-requires
unreachable-requires c = let sh = c.args.shape.now in let hand = c.args.held.now in let x = a_head sh hand c.args.table c.requires in c.in_default.not-Head x.0 (two_same _ c.part.result.now (part.Head x.0) c.part.ensures (lies sh hand (HeadOf c.args.table) c.head.result (part.Head x.0) c.head.ensures x.1))

pub returns : goal.returns
returns c = let sh = c.args.shape.now in let hand = c.args.held.now in found_there sh hand (HeadOf c.args.table) c.head.result c.part.result.now c.head.ensures c.part.ensures ∙ ap Some (c.in-Head.is ∙ ap part.Head (sym c.get.ensures))
