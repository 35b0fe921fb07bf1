use Rattle.std.proofs.Common.{ℕ, ℤ, [], ◌∷◌, ap, subst, ◌∙◌}
use Rattle.std.specs.Int.{w64}
use Rattle.std.proofs.lemmas.Int.{to_z-of_z}
use Rattle.core_parts.specs.Hands.{in_hand}
use Rattle.core_parts.specs.Touched.{bodies_at}
use Rattle.event_spec.specs.Parts.{ShardOf, shard_of}
use Rattle.event_spec.specs.Touched.{held_places}
use Rattle.shared_store.specs.Taking.{Marked}
use Rattle.shared_store.proofs.Marking.{marked_on}
use Rattle.shared_store.proofs.taking.mark_got.Goals as goal

pub mark_candidates-requires : goal.mark_candidates-requires
mark_candidates-requires c = c.mark_shard.ensures.room ∙ c.requires

pub returns : goal.returns
returns c =
    let sh = c.args.shape.now in
    let key = to_z-of_z w64 c.args.key c.ranges.key in
    let shard = subst (λ (i : ℕ). Marked sh (ShardOf c.args.table i ∷ []) c.args.marks.now c.mark_shard.new.marks) (c.shard_of.ensures ∙ ap shard_of key) c.mark_shard.ensures in
    let found = subst (λ (k : ℤ). Marked sh (bodies_at c.args.table (held_places sh (in_hand sh c.args.held.now) c.args.table k)) c.mark_shard.new.marks c.mark_candidates.new.marks) key c.mark_candidates.ensures in
    marked_on sh (ShardOf c.args.table (shard_of c.args.key) ∷ []) (bodies_at c.args.table (held_places sh (in_hand sh c.args.held.now) c.args.table c.args.key)) c.args.marks.now c.mark_shard.new.marks c.mark_candidates.new.marks shard found
