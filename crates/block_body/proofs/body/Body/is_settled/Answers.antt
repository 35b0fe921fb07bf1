use Rattle.std.proofs.Common.{◌∙◌, List, false, reverse, ap, sym}
use Rattle.std.proofs.lemmas.List.{reverse-reverse}
use Rattle.std.specs.Option.{option_map_or}
use Rattle.std.specs.Prelude.{slice_get}
use Rattle.undo_chain.specs.declared.undo.Undo.{Undo}
use Rattle.undo_chain.specs.Entry.{is_stamped_by}
use Rattle.block_spec.specs.declared.change.Before.{Before}
use Rattle.block_body.proofs.Bodies.{body_slot}
use Rattle.block_body.proofs.body.Body.is_settled.Goals as goal

pub returns-in_default : goal.returns-in_default
returns-in_default c =
    let i = c.self.inside in
    rw (← c.self.view_is) (rw (body_slot i.rows i.chains.entries i.written i.phase i.cooling i.rounds i.last c.self.invariant c.args.slot)
    (ap (λ (es : List (Undo Before)). option_map_or (λ (undo : Undo Before). is_stamped_by undo c.args.stamp) (slice_get (reverse es) 0) false) (sym c.in_default.ensures.none)))

pub returns-in-Some-first : goal.returns-in-Some-first
returns-in-Some-first c =
    let i = c.self.inside in
    rw (← c.self.view_is) (rw (body_slot i.rows i.chains.entries i.written i.phase i.cooling i.rounds i.last c.self.invariant c.args.slot)
    (c.is_stamped_by.ensures
    ∙ ap (λ o. option_map_or (λ (undo : Undo Before). is_stamped_by undo c.args.stamp) o false) c.in-Some-first.ensures.value
    ∙ ap (λ (es : List (Undo Before)). option_map_or (λ (undo : Undo Before). is_stamped_by undo c.args.stamp) (slice_get es 0) false)
    (sym (reverse-reverse c.entries.result.now) ∙ ap reverse (c.entries.ensures ∙ c.in-Some.ensures.entries))))
