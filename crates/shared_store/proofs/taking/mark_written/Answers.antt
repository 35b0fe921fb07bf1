use Rattle.std.proofs.Common.{ℕ, [], ◌∷◌, map, sym, subst, ◌∙◌}
use Rattle.std.specs.Map.Iter.{deref_pair}
use Rattle.block_layout.specs.Place.{block_of}
use Rattle.core_parts.specs.Touched.{bodies_written}
use Rattle.event_spec.specs.Parts.{BodyOf}
use Rattle.isolation_spec.specs.Contents.{PlaceMap}
use Rattle.isolation_spec.specs.declared.place.Place.{Place}
use Rattle.shared_store.specs.Taking.{Marked}
use Rattle.shared_store.proofs.Marking.{map-join, marked_behind, still_marked}
use Rattle.shared_store.proofs.taking.mark_written.Goals as goal

pub loop-row-init : goal.loop-row-init
loop-row-init c = still_marked c.args.shape.now c.args.marks.now

pub mark_body-requires : goal.mark_body-requires
mark_body-requires c = c.loop-row.invariant.room ∙ c.requires

pub loop-row-preserved : goal.loop-row-preserved
loop-row-preserved c =
    let one = subst (λ b. Marked c.args.shape.now (BodyOf c.in-Some.row.now.table b ∷ []) c.loop-row.marks c.mark_body.new.marks) c.block.ensures.block c.mark_body.ensures in
    subst (λ (ws : PlaceMap ℕ). Marked c.args.shape.now (bodies_written ws) c.args.marks.now c.mark_body.new.marks)
    (sym (map-join deref_pair c.loop-row.yielded ((c.in-Some.row, c.in-Some.place) ∷ [])))
    (marked_behind c.args.shape.now (λ (write : Place × ℕ). BodyOf write.0.table (block_of write.1)) (map deref_pair c.loop-row.yielded) (deref_pair (c.in-Some.row, c.in-Some.place)) c.args.marks.now c.loop-row.marks c.mark_body.new.marks c.loop-row.invariant one)
