use Rattle.std.proofs.Common.{◌≡◌, arith, count_ones, ap, ◌∙◌}
use Rattle.std.proofs.lemmas.List.Sums.{count_by-le-length}
use Rattle.std.specs.List.{count_by, sum_by}
use Rattle.flat_column.proofs.BitmapLemmas.{Holds-from, Holds-count}
use Rattle.flat_column.proofs.bit_list.Bits.count.Goals as goal

-- the ones of the bytes are the ones of the list
ones : (c : goal.After-as_slice) → sum_by count_ones c.as_slice.result.now ≡ count_by (λ bit. bit) c.args.self.now
ones c =
    ap (sum_by count_ones) c.as_slice.ensures.value
    ∙ Holds-count c.self.inside.bytes.items c.self.inside.len c.args.self.now
    (Holds-from c.self.inside.bytes.items c.self.inside.len c.args.self.now c.self.view_is c.self.invariant)

pub ones-requires : goal.ones-requires
ones-requires c =
    let all = ones c in
    let most = count_by-le-length (λ bit. bit) c.args.self.now in
    let fits = c.self.invariant.fits in
    let size = (Holds-from c.self.inside.bytes.items c.self.inside.len c.args.self.now c.self.view_is c.self.invariant).size in
    omega arith

pub returns : goal.returns
returns c =
    c.ones.ensures ∙ ap (sum_by count_ones) c.as_slice.ensures.value
    ∙ Holds-count c.self.inside.bytes.items c.self.inside.len c.args.self.now
    (Holds-from c.self.inside.bytes.items c.self.inside.len c.args.self.now c.self.view_is c.self.invariant)
