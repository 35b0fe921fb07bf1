use Rattle.std.proofs.Common.{◌≡◌, ℕ, ◌+◌, ◌*◌, ◌++◌, length, replicate, ap, ◌∙◌}
use Rattle.flat_column.proofs.StripLemmas.{opened, Holds, Holds-extended, closed}
use Rattle.flat_column.proofs.strip_list.Strips.extend.Goals as goal

longer : (c : goal.In_ok-resize) → Holds c.args.self.now.width c.resize.new.self.items (c.args.self.now.values ++ replicate c.args.n (replicate c.args.self.now.width 0))
longer c =
    let o = opened c.self.inside.width c.self.inside.bytes.items c.args.self.now c.self.view_is c.self.invariant in
    let size : c.in-Some-checked_mul.size ≡ c.args.self.now.width * (length c.args.self.now.values + c.args.n) =
    c.in-Some-checked_mul.ensures.1 ∙ ap (λ (n : ℕ). n * c.in-Some.len) o.width_is
    ∙ ap (λ (n : ℕ). c.args.self.now.width * n) (c.in-Some.ensures.1 ∙ ap (λ (n : ℕ). n + c.args.n) c.len.ensures) in
    Holds-extended c.args.self.now.width c.self.inside.bytes.items c.resize.new.self.items c.args.self.now.values
    c.args.n c.in-Some-checked_mul.size c.self.inside.bytes.len o.holds size c.self.inside.bytes.ok.0 c.in_ok-resize.ensures.items

pub invariant_of-self-2 : goal.invariant_of-self-2
invariant_of-self-2 c =
    let o = opened c.self.inside.width c.self.inside.bytes.items c.args.self.now c.self.view_is c.self.invariant in
    (closed c.self.inside.width c.resize.new.self.items c.args.self.now
    (c.args.self.now.values ++ replicate c.args.n (replicate c.args.self.now.width 0)) o.width_is (longer c)).1

pub returns-clause-ok : goal.returns-clause-ok
returns-clause-ok c =
    let o = opened c.self.inside.width c.self.inside.bytes.items c.args.self.now c.self.view_is c.self.invariant in
    (closed c.self.inside.width c.resize.new.self.items c.args.self.now
    (c.args.self.now.values ++ replicate c.args.n (replicate c.args.self.now.width 0)) o.width_is (longer c)).0
