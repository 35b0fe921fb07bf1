use Rattle.std.proofs.Common.{◌≡◌, ◌+◌, ◌*◌, map}
use Rattle.std.specs.List.{range_with_len}
use Rattle.stream_spec.specs.Metadata.{node_at}
use Rattle.arrow_meta.proofs.batches.nodes_of.Given as goal

-- those of the places so far
abbrev pub invariant-loop-i : goal.invariant-loop-i
invariant-loop-i l = l.list.items ≡ map (node_at l.bytes) (map (λ i. l.nodes.first + 16 * i) (range_with_len 0 l.i))
