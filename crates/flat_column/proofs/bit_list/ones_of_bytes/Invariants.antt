use Rattle.std.proofs.Common.{◌≡◌, take, count_ones}
use Rattle.std.specs.List.{sum_by}
use Rattle.flat_column.proofs.bit_list.ones_of_bytes.Given as goal

abbrev pub invariant-loop-byte : goal.invariant-loop-byte
invariant-loop-byte l = l.count ≡ sum_by count_ones (take l.byte-index l.bytes)
