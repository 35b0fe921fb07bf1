use Rattle.std.proofs.Common.{IfSome, map, ◌∙◌, subst, sym}
use Rattle.core_parts.specs.Written.{AreWritten, name_on, names_written}
use Rattle.core_parts.proofs.Founds.{permuted}
use Rattle.core_parts.proofs.offers.offer_found.Goals as goal

pub returns-in-Some : goal.returns-in-Some
returns-in-Some c =
    c.offer.ensures
    ∙ sym (permuted c.args.shape.now (names_written c.args.kind c.args.writes.now) (map (name_on c.args.kind) c.in-Some.spots.now) c.args.least.now
    (subst (λ o. IfSome o (λ spots. AreWritten c.args.kind c.args.writes.now spots.now)) c.in-Some.is c.requires))
