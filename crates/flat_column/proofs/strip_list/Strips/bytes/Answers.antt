use Rattle.std.proofs.Common.{◌≡◌, ℕ, ◌*◌, length, take, ap, ◌∙◌, arith}
use Rattle.flat_column.proofs.StripLemmas.{opened, Holds-front, Holds-take}
use Rattle.flat_column.proofs.strip_list.Strips.bytes.Goals as goal

pub overflow_mul-end : goal.overflow_mul-end
overflow_mul-end c =
    let o = opened c.self.inside.width c.self.inside.bytes.items c.args.self.now c.self.view_is c.self.invariant in
    let front = Holds-front c.args.self.now.width c.self.inside.bytes.items c.args.self.now.values c.args.n o.holds c.requires in
    let end : c.self.inside.width * c.args.n ≡ c.args.self.now.width * c.args.n = ap (λ (n : ℕ). n * c.args.n) o.width_is in
    let long = c.self.inside.bytes.ok in
    let small = c.self.inside.bytes.small in
    omega arith

pub split_at-requires : goal.split_at-requires
split_at-requires c =
    let o = opened c.self.inside.width c.self.inside.bytes.items c.args.self.now c.self.view_is c.self.invariant in
    let front = Holds-front c.args.self.now.width c.self.inside.bytes.items c.args.self.now.values c.args.n o.holds c.requires in
    let end : c.self.inside.width * c.args.n ≡ c.args.self.now.width * c.args.n = ap (λ (n : ℕ). n * c.args.n) o.width_is in
    let same = ap length c.as_slice.ensures.value in
    omega arith

pub returns : goal.returns
returns c =
    let o = opened c.self.inside.width c.self.inside.bytes.items c.args.self.now c.self.view_is c.self.invariant in
    let front = Holds-front c.args.self.now.width c.self.inside.bytes.items c.args.self.now.values c.args.n o.holds c.requires in
    let end : c.self.inside.width * c.args.n ≡ c.args.self.now.width * c.args.n = ap (λ (n : ℕ). n * c.args.n) o.width_is in
    c.split_at.ensures.front ∙ ap (take (c.self.inside.width * c.args.n)) c.as_slice.ensures.value
    ∙ ap (λ (n : ℕ). take n c.self.inside.bytes.items) end
    ∙ Holds-take c.args.self.now.width c.self.inside.bytes.items c.args.self.now.values c.args.n o.holds
