use Rattle.std.proofs.Common.{ℕ, [], ◌∷◌, List, take, sym, subst, ◌∙◌, arith}
use Rattle.block_layout.specs.Place.{block_of}
use Rattle.core_parts.specs.Touched.{bodies_at}
use Rattle.event_spec.specs.Parts.{BodyOf}
use Rattle.shared_store.specs.Taking.{Marked}
use Rattle.shared_store.proofs.Marking.{marked_behind, still_marked, take_next, take_whole}
use Rattle.shared_store.proofs.taking.mark_places.Goals as goal

pub loop-place-init : goal.loop-place-init
loop-place-init c = still_marked c.args.shape.now c.args.marks.now

pub mark_body-requires : goal.mark_body-requires
mark_body-requires c = c.loop-place.invariant.room ∙ c.requires

pub loop-place-preserved : goal.loop-place-preserved
loop-place-preserved c =
    let one = subst (λ b. Marked c.args.shape.now (BodyOf c.args.table b ∷ []) c.loop-place.marks c.mark_body.new.marks) c.block.ensures.block c.mark_body.ensures in
    subst (λ (ps : List ℕ). Marked c.args.shape.now (bodies_at c.args.table ps) c.args.marks.now c.mark_body.new.marks)
    (sym (take_next c.args.places.now c.loop-place.place-index c.place-item.result (omega arith) c.place-item.is))
    (marked_behind c.args.shape.now (λ (place : ℕ). BodyOf c.args.table (block_of place)) (take c.loop-place.place-index c.args.places.now) c.place-item.result c.args.marks.now c.loop-place.marks c.mark_body.new.marks c.loop-place.invariant one)

pub returns : goal.returns
returns c = subst (λ (ps : List ℕ). Marked c.args.shape.now (bodies_at c.args.table ps) c.args.marks.now c.loop-place.marks)
    (take_whole c.args.places.now c.loop-place.place-index (omega arith)) c.loop-place.invariant
