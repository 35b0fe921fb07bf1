use Rattle.flat_column.proofs.BitmapLemmas.{Holds-from}
use Rattle.flat_column.proofs.bit_list.Bits.len.Goals as goal

pub returns : goal.returns
returns c = (Holds-from c.self.inside.bytes.items c.self.inside.len c.args.self.now c.self.view_is c.self.invariant).size
