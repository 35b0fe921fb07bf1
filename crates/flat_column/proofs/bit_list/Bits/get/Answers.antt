use Rattle.std.proofs.Common.{arith, ◌/◌}
use Rattle.std.proofs.lemmas.List.{get_or_read}
use Rattle.flat_column.proofs.BitmapLemmas.{Holds-from, Holds-byte, Holds-get}
use Rattle.flat_column.proofs.bit_list.Bits.get.Goals as goal

pub index-requires : goal.index-requires
index-requires c =
    let h = Holds-from c.self.inside.bytes.items c.self.inside.len c.args.self.now c.self.view_is c.self.invariant in
    let byte = Holds-byte c.self.inside.bytes.items c.self.inside.len c.args.self.now c.args.index h c.requires in
    let long = c.self.inside.bytes.ok.0 in
    omega arith

pub returns : goal.returns
returns c =
    let h = Holds-from c.self.inside.bytes.items c.self.inside.len c.args.self.now c.self.view_is c.self.invariant in
    let byte = Holds-byte c.self.inside.bytes.items c.self.inside.len c.args.self.now c.args.index h c.requires in
    Holds-get c.self.inside.bytes.items c.self.inside.len c.args.self.now c.args.index c.index.result.now h c.requires
    (get_or_read c.self.inside.bytes.items (c.args.index / 8) c.index.result.now byte c.index.ensures 0)
