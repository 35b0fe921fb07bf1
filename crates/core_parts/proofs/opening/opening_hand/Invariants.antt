use Rattle.std.proofs.Common.{◌≡◌, map}
use Rattle.std.specs.List.{flat_map}
use Rattle.core_parts.specs.FirstRows.{HaveRoom}
use Rattle.core_parts.specs.Placed.{placed}
use Rattle.event_spec.specs.Parts.{BodyOf, HeadOf, ShardOf, below, blocks_of}
use Rattle.core_parts.proofs.opening.opening_hand.Given as goal

abbrev pub invariant-loop-table : goal.invariant-loop-table
invariant-loop-table l = record {
  heads : l.places.items ≡ placed l.shape (map HeadOf (below l.table));
  shards : l.shards.items ≡ placed l.shape (flat_map (λ table. map (ShardOf table) (below 8)) (below l.table));
  bodies : l.bodies.items ≡ placed l.shape (flat_map (λ table. map (BodyOf table) (below (blocks_of l.shape table))) (below l.table));
  room : HaveRoom l.shape l.table;
}
