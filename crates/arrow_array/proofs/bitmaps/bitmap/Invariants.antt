use Rattle.std.proofs.Common.{◌≡◌, ◌++◌, map, length}
use Rattle.arrow_spec.specs.Bytes.{bitmap}
use Rattle.arrow_array.specs.Batches.{bit_of, cell_at}
use Rattle.arrow_array.proofs.bitmaps.bitmap.Given as goal

abbrev pub invariant-loop-rest : goal.invariant-loop-rest
invariant-loop-rest l =
    l.bytes.items ++ bitmap (map (λ row. bit_of l.fn.bit (cell_at l.fn.place row)) l.rest)
    ≡ bitmap (map (λ row. bit_of l.fn.bit (cell_at l.fn.place row)) l.fn.rows)

abbrev pub decreases-loop-rest : goal.decreases-loop-rest
decreases-loop-rest l = length l.rest
