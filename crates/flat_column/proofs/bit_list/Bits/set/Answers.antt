use Rattle.std.proofs.Common.{ℕ, ◌/◌, ◌%◌, set, subst, arith}
use Rattle.std.proofs.lemmas.List.{get_or_read}
use Rattle.flat_column.specs.Bitmap.{PutsBit}
use Rattle.flat_column.proofs.BitmapLemmas.{Holds, Holds-from, Holds-byte, Holds-set, Holds-view, Holds-invariant}
use Rattle.flat_column.proofs.bit_list.Bits.set.Goals as goal

pub index-requires : goal.index-requires
index-requires c =
    let h = Holds-from c.self.inside.bytes.items c.self.inside.len c.args.self.now c.self.view_is c.self.invariant in
    let byte = Holds-byte c.self.inside.bytes.items c.self.inside.len c.args.self.now c.args.index h c.requires in
    let long = c.self.inside.bytes.ok.0 in
    omega arith

pub index_mut-requires : goal.index_mut-requires
index_mut-requires c =
    let h = Holds-from c.self.inside.bytes.items c.self.inside.len c.args.self.now c.self.view_is c.self.invariant in
    let byte = Holds-byte c.self.inside.bytes.items c.self.inside.len c.args.self.now c.args.index h c.requires in
    let long = c.self.inside.bytes.ok.0 in
    omega arith

put : (c : goal.After-self-1) → Holds (set c.self.inside.bytes.items (c.args.index / 8) c.with_bit-byte.result) c.self.inside.len (set c.args.self.now c.args.index c.args.bit)
put c =
    let h = Holds-from c.self.inside.bytes.items c.self.inside.len c.args.self.now c.self.view_is c.self.invariant in
    let byte = Holds-byte c.self.inside.bytes.items c.self.inside.len c.args.self.now c.args.index h c.requires in
    let P : ℕ → Type 0 = λ old. PutsBit old c.with_bit-byte.result (c.args.index % 8) c.args.bit in
    Holds-set c.self.inside.bytes.items c.self.inside.len c.args.self.now c.args.index c.args.bit c.with_bit-byte.result h c.requires
    (subst P (get_or_read c.self.inside.bytes.items (c.args.index / 8) c.index.result.now byte c.index.ensures 0) c.with_bit-byte.ensures)

pub invariant_of-self : goal.invariant_of-self
invariant_of-self c =
    Holds-invariant (set c.self.inside.bytes.items (c.args.index / 8) c.with_bit-byte.result) c.self.inside.len
    (set c.args.self.now c.args.index c.args.bit) (put c) c.self.invariant.fits

pub returns : goal.returns
returns c =
    Holds-view (set c.self.inside.bytes.items (c.args.index / 8) c.with_bit-byte.result) c.self.inside.len
    (set c.args.self.now c.args.index c.args.bit) (put c)
