use Rattle.std.proofs.Common.{◌++◌, ◌∷◌, [], Some, sym, ap, ◌∙◌}
use Rattle.core_parts.proofs.Places.{grown, placed_more}
use Rattle.core_parts.specs.Placed.{placed}
use Rattle.core_parts.specs.Hands.{Held}
use Rattle.event_spec.specs.declared.part.Part.TheVariants as part
use Rattle.event_spec.specs.Parts.{ShardOf, below}
use Rattle.key_index.specs.Candidates.{Places}
use Rattle.std.specs.Prelude.{map}
use Rattle.core_parts.proofs.opening.add_shards.Goals as goal

pub loop-shard-preserved : goal.loop-shard-preserved
loop-shard-preserved c =
    let sh = c.args.shape.now in
    let is = ap (λ (x : Places). Some (part.Shard x) ∷ []) (c.in_ok-new.ensures ∙ c.in_ok-index.ensures) in
    grown c.args.shards.now.items (placed sh (map (ShardOf c.args.table) (below c.loop-shard.shard))) _ c.loop-shard.shards.items c.push.new.self.items c.loop-shard.invariant (c.in_ok-push.ensures.items ∙ ap (λ (more : Held). c.loop-shard.shards.items ++ more) is)
    ∙ ap (λ (more : Held). c.args.shards.now.items ++ more) (sym (placed_more sh (ShardOf c.args.table) c.loop-shard.shard))
