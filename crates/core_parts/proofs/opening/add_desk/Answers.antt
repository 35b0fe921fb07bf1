use Rattle.std.proofs.Common.{◌++◌, ◌∙◌, [], ◌∷◌, Some, ap}
use Rattle.event_spec.specs.declared.part.Part.TheVariants as part
use Rattle.event_spec.specs.Replay.{opening_desk}
use Rattle.isolation_spec.specs.Contents.{History}
use Rattle.txn_desk.specs.Desk.{DeskState}
use Rattle.core_parts.proofs.opening.add_desk.Goals as goal

pub returns : goal.returns
returns c =
    c.in_ok-push.ensures.items
    ∙ ap (λ (desk : DeskState). c.args.places.now.items ++ Some (part.Desk desk) ∷ [])
    (c.in_ok-new.ensures ∙ c.in_ok-desk.ensures ∙ ap (λ (first : History). opening_desk first c.args.shape.now.passes) c.requires.first)
