use Rattle.std.proofs.Common.{Some, None, ap, ◌∙◌, sym}
use Rattle.core_parts.proofs.Placing.{found_there, laid_is, lies, named_once, two_same}
use Rattle.core_parts.proofs.Telling.{a_head, head_there}
use Rattle.event_spec.specs.declared.part.Part.TheVariants as part
use Rattle.event_spec.specs.Parts.{HeadOf, names}
use Rattle.core_parts.proofs.access.take_head.Goals as goal

pub head-requires : goal.head-requires
head-requires c = let sh = c.args.shape.now in let hand = c.args.held.now in head_there sh hand c.args.table c.requires

pub take-requires : goal.take-requires
take-requires c = let sh = c.args.shape.now in let hand = c.args.held.now in let x = a_head sh hand c.args.table c.requires in (part.Head x.0, lies sh hand (HeadOf c.args.table) c.head.result (part.Head x.0) c.head.ensures x.1)

pub unreachable-requires : goal.unreachable-requires
unreachable-requires c = let sh = c.args.shape.now in let hand = c.args.held.now in let x = a_head sh hand c.args.table c.requires in c.in_default.not-Head x.0 (two_same _ c.take.result (part.Head x.0) c.take.ensures.part (lies sh hand (HeadOf c.args.table) c.head.result (part.Head x.0) c.head.ensures x.1))

pub returns-clause-part : goal.returns-clause-part
returns-clause-part c = let sh = c.args.shape.now in let hand = c.args.held.now in found_there sh hand (HeadOf c.args.table) c.head.result c.take.result c.head.ensures c.take.ensures.part ∙ ap Some (c.in-Head.is ∙ ap part.Head (sym c.into_box.ensures))

pub returns-clause-taken : goal.returns-clause-taken
returns-clause-taken c = let sh = c.args.shape.now in let hand = c.args.held.now in c.take.ensures.taken ∙ laid_is (names sh) hand (HeadOf c.args.table) c.head.result None (named_once sh) c.head.ensures
