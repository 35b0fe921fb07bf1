use Rattle.std.proofs.Common.{◌≡◌, ◌+◌, ◌*◌, ◌-◌, ◌++◌, length, take, replicate}
use Rattle.std.specs.Prelude.{flat_map}
use Rattle.arrow_meta.proofs.PairLemmas.{vector_head, pair_bytes}
use Rattle.arrow_meta.proofs.batch.lay_pairs.Given as goal

abbrev pub invariant-loop-first : goal.invariant-loop-first
invariant-loop-first l = record {
  at : l.at ≡ l.vector + 4 + 16 * l.first-index;
  long : length l.build ≡ l.vector + 4 + 16 * length l.pairs;
  bytes : l.build
      ≡ (vector_head l.fn.build (length l.pairs) ++ flat_map pair_bytes (take l.first-index l.pairs))
      ++ replicate (16 * (length l.pairs - l.first-index)) 0;
}
