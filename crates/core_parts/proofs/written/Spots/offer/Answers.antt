use Rattle.std.proofs.Common.{◌∙◌, subst, sym}
use Rattle.core_parts.specs.Written.{IsLeastOn}
use Rattle.core_parts.proofs.Founds.{least_offered, none_offered}
use Rattle.core_parts.proofs.written.Spots.offer.Goals as goal

pub returns-in-Some : goal.returns-in-Some
returns-in-Some c =
    c.offer.ensures ∙ sym (least_offered c.args.shape.now c.args.kind c.args.self.now c.args.least.now c.in-Some.number
    (subst (IsLeastOn c.args.kind c.args.shape.now c.args.least.now.from c.args.self.now) c.in-Some.is c.least_from.ensures))

pub returns-in_default : goal.returns-in_default
returns-in_default c =
    sym (none_offered c.args.shape.now c.args.kind c.args.self.now c.args.least.now
    (subst (IsLeastOn c.args.kind c.args.shape.now c.args.least.now.from c.args.self.now) c.in_default.is c.least_from.ensures))
