use Rattle.std.proofs.Common.{ℕ, arith, ◌*◌, ◌/◌, length, ap, ◌∙◌}
use Rattle.std.proofs.Math.Nat.{mul-div_right}
use Rattle.flat_column.proofs.NumberLemmas.{opened, sized, Holds-length}
use Rattle.flat_column.proofs.number_list.Fixed.len.Goals as goal

pub nonzero_div-result : goal.nonzero_div-result
nonzero_div-result c =
    let o = opened c.self.inside.width c.self.inside.signed c.self.inside.bytes.items c.args.self.now c.self.view_is c.self.invariant in
    let some = (sized c.args.self.now.width o.holds.known).bytes in
    let same = c.size.ensures in
    omega arith

pub returns : goal.returns
returns c =
    let o = opened c.self.inside.width c.self.inside.signed c.self.inside.bytes.items c.args.self.now c.self.view_is c.self.invariant in
    let long = Holds-length c.args.self.now.width c.args.self.now.signed c.self.inside.bytes.items c.args.self.now.values o.holds in
    ap (λ (n : ℕ). n / c.size.result) (c.len.ensures ∙ c.self.inside.bytes.ok.0 ∙ long)
    ∙ ap (λ (n : ℕ). c.args.self.now.width / 8 * length c.args.self.now.values / n) c.size.ensures
    ∙ mul-div_right (length c.args.self.now.values) (sized c.args.self.now.width o.holds.known).bytes
