use Rattle.std.proofs.Common.{◌≡◌, ◌≤◌, List, Bool, ℕ, length, take, sym, ap, ◌∙◌, arith}
use Rattle.std.specs.List.{count_by}
use Rattle.flat_column.specs.Bitmap.{bitmap_bits}
use Rattle.flat_column.proofs.BitmapLemmas.{Holds-from, Holds-length, take_bits}
use Rattle.flat_column.proofs.bit_list.Bits.count_first.Goals as goal

pub ones_among-requires : goal.ones_among-requires
ones_among-requires c =
    let h = Holds-from c.self.inside.bytes.items c.self.inside.len c.args.self.now c.self.view_is c.self.invariant in
    let long = Holds-length c.self.inside.bytes.items c.self.inside.len c.args.self.now h in
    let same : length c.as_slice.result.now ≡ length c.self.inside.bytes.items = ap length c.as_slice.ensures.value in
    let within = c.requires in
    omega arith

pub returns : goal.returns
returns c =
    let h = Holds-from c.self.inside.bytes.items c.self.inside.len c.args.self.now c.self.view_is c.self.invariant in
    let size = h.size in
    let requires = c.requires in
    let within : c.args.n ≤ c.self.inside.len = omega arith in
    c.ones_among.ensures
    ∙ ap (λ (bytes : List ℕ). count_by (λ bit. bit) (bitmap_bits bytes c.args.n)) c.as_slice.ensures.value
    ∙ ap (count_by (λ bit. bit)) (sym (take_bits c.self.inside.bytes.items c.args.n c.self.inside.len within))
    ∙ ap (λ (bits : List Bool). count_by (λ bit. bit) (take c.args.n bits)) c.self.view_is
