use Rattle.std.proofs.Common.{◌≡◌, ℕ, List, map, sym, subst, ◌∙◌, arith}
use Rattle.event_spec.specs.Parts.{ShardOf, below}
use Rattle.shared_store.specs.Taking.{Marked}
use Rattle.shared_store.proofs.Marking.{marked_behind, still_marked}
use Rattle.shared_store.proofs.Scanned.{below_more}
use Rattle.shared_store.proofs.taking.mark_shards.Goals as goal

pub loop-shard-init : goal.loop-shard-init
loop-shard-init c = still_marked c.args.shape.now c.args.marks.now

pub mark_shard-requires-clause-room : goal.mark_shard-requires-clause-room
mark_shard-requires-clause-room c = c.loop-shard.invariant.room ∙ c.requires

pub loop-shard-preserved : goal.loop-shard-preserved
loop-shard-preserved c = subst (λ (is : List ℕ). Marked c.args.shape.now (map (ShardOf c.args.table) is) c.args.marks.now c.mark_shard.new.marks) (sym (below_more c.loop-shard.shard))
    (marked_behind c.args.shape.now (ShardOf c.args.table) (below c.loop-shard.shard) c.loop-shard.shard c.args.marks.now c.loop-shard.marks c.mark_shard.new.marks c.loop-shard.invariant c.mark_shard.ensures)

pub returns : goal.returns
returns c =
    let all : c.loop-shard.shard ≡ 8 = omega arith in
    subst (λ (n : ℕ). Marked c.args.shape.now (map (ShardOf c.args.table) (below n)) c.args.marks.now c.loop-shard.marks) all c.loop-shard.invariant
