use Rattle.std.proofs.Common.{ℕ, ◌*◌, ◌/◌, arith, length, ap, ◌∙◌}
use Rattle.std.proofs.Math.Nat.{mul-div_right}
use Rattle.flat_column.proofs.StripLemmas.{opened, Holds-length}
use Rattle.flat_column.proofs.strip_list.Strips.len.Goals as goal

pub nonzero_div-result : goal.nonzero_div-result
nonzero_div-result c =
    let some = c.self.invariant.some in
    omega arith

pub returns : goal.returns
returns c =
    let o = opened c.self.inside.width c.self.inside.bytes.items c.args.self.now c.self.view_is c.self.invariant in
    let long = Holds-length c.args.self.now.width c.self.inside.bytes.items c.args.self.now.values o.holds in
    ap (λ (n : ℕ). n / c.self.inside.width) (c.len.ensures ∙ c.self.inside.bytes.ok.0 ∙ long)
    ∙ ap (λ (n : ℕ). c.args.self.now.width * length c.args.self.now.values / n) o.width_is
    ∙ mul-div_right (length c.args.self.now.values) o.holds.some
