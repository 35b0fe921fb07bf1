use Rattle.std.proofs.Common.{◌≡◌, ◌∙◌, ℕ, List, [], ◌++◌, sym, subst, append-nil, arith}
use Rattle.std.specs.List.{flat_map}
use Rattle.std.specs.Option.{option_map_or}
use Rattle.core_parts.specs.Hands.{in_hand}
use Rattle.core_parts.specs.Touched.{bodies_on, shards_in}
use Rattle.event_spec.specs.Newest.{keys_within}
use Rattle.event_spec.specs.Parts.{Name, ShardOf, below, shard_from}
use Rattle.shared_store.specs.Taking.{Marked}
use Rattle.shared_store.proofs.Marking.{marked_within}
use Rattle.shared_store.proofs.Scanned.{below_more}
use Rattle.shared_store.proofs.taking.mark_range.Goals as goal

pub loop-shard-init : goal.loop-shard-init
loop-shard-init c = subst (λ (ws : List Name). Marked c.args.shape.now ws c.args.marks.now c.mark_shards.new.marks) (sym (append-nil (shards_in c.args.range.now.table))) c.mark_shards.ensures

pub mark_keys_of-requires-clause-room : goal.mark_keys_of-requires-clause-room
mark_keys_of-requires-clause-room c = c.loop-shard.invariant.room ∙ c.requires

pub loop-shard-preserved : goal.loop-shard-preserved
loop-shard-preserved c =
    let sh = c.args.shape.now in
    let t = c.args.range.now.table in
    let f = bodies_on sh (in_hand sh c.args.held.now) (option_map_or (λ writes. writes.now) c.args.writes []) t in
    let keys = λ (shard : ℕ). keys_within c.args.range.now.low c.args.range.now.high (shard_from (in_hand sh c.args.held.now (ShardOf t shard))) in
    subst (λ (is : List ℕ). Marked sh (shards_in t ++ flat_map f (flat_map keys is)) c.args.marks.now c.mark_keys_of.new.marks) (sym (below_more c.loop-shard.shard))
    (marked_within sh (shards_in t) f keys (below c.loop-shard.shard) c.loop-shard.shard c.args.marks.now c.loop-shard.marks c.mark_keys_of.new.marks c.loop-shard.invariant c.mark_keys_of.ensures)

pub returns : goal.returns
returns c =
    let sh = c.args.shape.now in
    let t = c.args.range.now.table in
    let f = bodies_on sh (in_hand sh c.args.held.now) (option_map_or (λ writes. writes.now) c.args.writes []) t in
    let keys = λ (shard : ℕ). keys_within c.args.range.now.low c.args.range.now.high (shard_from (in_hand sh c.args.held.now (ShardOf t shard))) in
    let all : c.loop-shard.shard ≡ 8 = omega arith in
    subst (λ (n : ℕ). Marked sh (shards_in t ++ flat_map f (flat_map keys (below n))) c.args.marks.now c.loop-shard.marks) all c.loop-shard.invariant
