use Rattle.std.proofs.Common.{◌≡◌, ℕ, ◌*◌, List, length, replicate, set, take, drop, ◌++◌, ap, ◌∙◌, arith}
use Rattle.std.proofs.lemmas.List.{with_items_is}
use Rattle.std.specs.Vec.{with_items}
use Rattle.flat_column.proofs.StripLemmas.{opened, Holds, Holds-room, Holds-set, closed, placed}
use Rattle.flat_column.proofs.strip_list.Strips.set.Goals as goal

pub overflow_mul-at : goal.overflow_mul-at
overflow_mul-at c =
    let o = opened c.self.inside.width c.self.inside.bytes.items c.args.self.now c.self.view_is c.self.invariant in
    let room = Holds-room c.args.self.now.width c.self.inside.bytes.items c.args.self.now.values c.args.index o.holds c.requires.at in
    let at : c.self.inside.width * c.args.index ≡ c.args.self.now.width * c.args.index = ap (λ (n : ℕ). n * c.args.index) o.width_is in
    let long = c.self.inside.bytes.ok in
    let small = c.self.inside.bytes.small in
    omega arith

pub put_at-requires : goal.put_at-requires
put_at-requires c =
    let o = opened c.self.inside.width c.self.inside.bytes.items c.args.self.now c.self.view_is c.self.invariant in
    let room = Holds-room c.args.self.now.width c.self.inside.bytes.items c.args.self.now.values c.args.index o.holds c.requires.at in
    let at : c.self.inside.width * c.args.index ≡ c.args.self.now.width * c.args.index = ap (λ (n : ℕ). n * c.args.index) o.width_is in
    let wide = o.width_is in
    let same = ap length c.as_mut_slice.ensures.value in
    let long = c.requires.width in
    omega arith

put : (c : goal.After-self-1) → Holds c.args.self.now.width (with_items c.self.inside.bytes c.put_at.new.bytes).items (set c.args.self.now.values c.args.index c.args.value.now)
put c =
    let o = opened c.self.inside.width c.self.inside.bytes.items c.args.self.now c.self.view_is c.self.invariant in
    let kept : length c.put_at.new.bytes ≡ c.self.inside.bytes.len = c.put_at.auto.bytes ∙ c.as_mut_slice.ensures.len in
    let at : c.self.inside.width * c.args.index ≡ c.args.self.now.width * c.args.index = ap (λ (n : ℕ). n * c.args.index) o.width_is in
    Holds-set c.args.self.now.width c.self.inside.bytes.items (with_items c.self.inside.bytes c.put_at.new.bytes).items c.args.value.now
    c.args.self.now.values c.args.index o.holds c.requires.at c.requires.width
    (with_items_is c.self.inside.bytes c.put_at.new.bytes kept
    ∙ placed c.put_at.new.bytes c.as_mut_slice.result.now c.self.inside.bytes.items c.args.value.now (c.self.inside.width * c.args.index)
    (c.args.self.now.width * c.args.index) (length c.args.value.now) c.args.self.now.width c.put_at.ensures c.as_mut_slice.ensures.value at c.requires.width)

pub invariant_of-self : goal.invariant_of-self
invariant_of-self c =
    let o = opened c.self.inside.width c.self.inside.bytes.items c.args.self.now c.self.view_is c.self.invariant in
    (closed c.self.inside.width (with_items c.self.inside.bytes c.put_at.new.bytes).items c.args.self.now
    (set c.args.self.now.values c.args.index c.args.value.now) o.width_is (put c)).1

pub returns : goal.returns
returns c =
    let o = opened c.self.inside.width c.self.inside.bytes.items c.args.self.now c.self.view_is c.self.invariant in
    (closed c.self.inside.width (with_items c.self.inside.bytes c.put_at.new.bytes).items c.args.self.now
    (set c.args.self.now.values c.args.index c.args.value.now) o.width_is (put c)).0
