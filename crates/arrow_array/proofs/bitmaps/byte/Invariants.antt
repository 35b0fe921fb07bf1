use Rattle.std.proofs.Common.{◌≡◌, ◌<◌, ◌^◌, ◌-◌, drop, map, length}
use Rattle.arrow_spec.specs.Bytes.{byte_of_bits}
use Rattle.arrow_array.specs.Batches.{bit_of, cell_at}
use Rattle.arrow_array.proofs.bitmaps.byte.Given as goal

abbrev pub invariant-loop-at : goal.invariant-loop-at
invariant-loop-at l = record {
  byte : l.byte ≡ byte_of_bits (map (λ row. bit_of l.fn.bit (cell_at l.place row)) (drop l.at l.rows));
  small : l.byte < 2 ^ (length l.rows - l.at);
}
