use Rattle.std.proofs.Common.{◌++◌, ◌∷◌, [], Some, sym, ap, ◌∙◌}
use Rattle.block_spec.specs.Bodies.{Body}
use Rattle.core_parts.proofs.Places.{grown, placed_more}
use Rattle.core_parts.specs.Placed.{placed}
use Rattle.core_parts.specs.Hands.{Held}
use Rattle.event_spec.specs.declared.part.Part.TheVariants as part
use Rattle.event_spec.specs.Parts.{BodyOf, below}
use Rattle.std.specs.Prelude.{map}
use Rattle.core_parts.proofs.opening.add_bodies.Goals as goal

pub loop-block-preserved : goal.loop-block-preserved
loop-block-preserved c =
    let sh = c.args.shape.now in
    let is = ap (λ (x : Body). Some (part.Body x) ∷ []) (c.in_ok-new.ensures ∙ c.in_ok-body.ensures) in
    grown c.args.bodies.now.items (placed sh (map (BodyOf c.args.table) (below c.loop-block.block))) _ c.loop-block.bodies.items c.push.new.self.items c.loop-block.invariant (c.in_ok-push.ensures.items ∙ ap (λ (more : Held). c.loop-block.bodies.items ++ more) is)
    ∙ ap (λ (more : Held). c.args.bodies.now.items ++ more) (sym (placed_more sh (BodyOf c.args.table) c.loop-block.block))
