use Rattle.std.proofs.Common.{◌++◌, ◌∙◌, [], ◌∷◌, Some, length, ap}
use Rattle.core_parts.proofs.FirstLent.{lent_all}
use Rattle.event_spec.specs.declared.part.Head.{Head}
use Rattle.event_spec.specs.declared.part.Part.TheVariants as part
use Rattle.event_spec.specs.Parts.{blocks_of, slots_of}
use Rattle.event_spec.specs.Replay.{opening_head}
use Rattle.core_parts.proofs.opening.add_head.Goals as goal

pub returns : goal.returns
returns c =
    let sh = c.args.shape.now in
    c.in_ok-push.ensures.items
    ∙ ap (λ (x : Head). c.args.heads.now.items ++ Some (part.Head x) ∷ [])
    (c.in_ok-new.ensures ∙ c.in_ok-head.ensures
    ∙ ap (λ blocks. opening_head blocks c.slots.result (length c.args.rows.now)) c.blocks-blocks.ensures.blocks
    ∙ ap (λ slots. opening_head (blocks_of sh c.args.table) slots (length c.args.rows.now)) c.slots.ensures.slots
    ∙ ap (opening_head (blocks_of sh c.args.table) (slots_of sh c.args.table)) (lent_all sh c.args.table c.args.rows.now c.requires.rows))
