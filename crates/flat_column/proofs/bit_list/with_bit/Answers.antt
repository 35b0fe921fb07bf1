use Rattle.std.proofs.Common.{arith}
use Rattle.flat_column.proofs.BitmapLemmas.{PutsBit-or, PutsBit-and}
use Rattle.flat_column.proofs.bit_list.with_bit.Goals as goal

pub returns-then-bit : goal.returns-then-bit
returns-then-bit c = rw c.if-bit.true (PutsBit-or c.args.byte c.args.place (omega arith) c.requires)

pub returns-else-bit : goal.returns-else-bit
returns-else-bit c = rw c.if-bit.false (PutsBit-and c.args.byte c.args.place (omega arith) c.requires)
