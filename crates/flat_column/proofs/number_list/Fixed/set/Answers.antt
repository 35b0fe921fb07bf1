use Rattle.std.proofs.Common.{◌≡◌, ℕ, ◌*◌, ◌/◌, length, set, ap, ◌∙◌, arith}
use Rattle.std.proofs.lemmas.Int.{to_z-of_z}
use Rattle.std.proofs.lemmas.List.{with_items_is}
use Rattle.std.specs.Vec.{with_items}
use Rattle.flat_column.proofs.NumberLemmas.{opened, Holds, Holds-room, Holds-set, closed, written}
use Rattle.flat_column.proofs.number_list.Fixed.set.Goals as goal

pub overflow_mul-at : goal.overflow_mul-at
overflow_mul-at c =
    let o = opened c.self.inside.width c.self.inside.signed c.self.inside.bytes.items c.args.self.now c.self.view_is c.self.invariant in
    let room = Holds-room c.args.self.now.width c.args.self.now.signed c.self.inside.bytes.items c.args.self.now.values c.args.index o.holds c.requires.at in
    let at : c.size.result * c.args.index ≡ c.args.self.now.width / 8 * c.args.index = ap (λ (n : ℕ). n * c.args.index) c.size.ensures in
    let long = c.self.inside.bytes.ok in
    let small = c.self.inside.bytes.small in
    omega arith

pub put_number_at-requires-clause-room : goal.put_number_at-requires-clause-room
put_number_at-requires-clause-room c =
    let o = opened c.self.inside.width c.self.inside.signed c.self.inside.bytes.items c.args.self.now c.self.view_is c.self.invariant in
    let room = Holds-room c.args.self.now.width c.args.self.now.signed c.self.inside.bytes.items c.args.self.now.values c.args.index o.holds c.requires.at in
    let at : c.size.result * c.args.index ≡ c.args.self.now.width / 8 * c.args.index = ap (λ (n : ℕ). n * c.args.index) c.size.ensures in
    let wide : c.self.inside.width / 8 ≡ c.args.self.now.width / 8 = ap (λ (n : ℕ). n / 8) o.width_is in
    let same = ap length c.as_mut_slice.ensures.value in
    omega arith

put : (c : goal.After-self-1) → Holds c.args.self.now.width c.args.self.now.signed (with_items c.self.inside.bytes c.put_number_at.new.bytes).items (set c.args.self.now.values c.args.index c.args.value)
put c =
    let o = opened c.self.inside.width c.self.inside.signed c.self.inside.bytes.items c.args.self.now c.self.view_is c.self.invariant in
    let kept : length c.put_number_at.new.bytes ≡ c.self.inside.bytes.len = c.put_number_at.auto.bytes ∙ c.as_mut_slice.ensures.len in
    let at : c.size.result * c.args.index ≡ c.args.self.now.width / 8 * c.args.index = ap (λ (n : ℕ). n * c.args.index) c.size.ensures in
    Holds-set c.args.self.now.width c.args.self.now.signed c.self.inside.bytes.items (with_items c.self.inside.bytes c.put_number_at.new.bytes).items
    c.args.self.now.values c.args.index c.args.value o.holds c.requires.at c.requires.in_range
    (with_items_is c.self.inside.bytes c.put_number_at.new.bytes kept
    ∙ written c.put_number_at.new.bytes c.as_mut_slice.result.now c.self.inside.bytes.items (c.size.result * c.args.index)
    (c.args.self.now.width / 8 * c.args.index) c.self.inside.width c.args.self.now.width _ c.args.value o.holds.known
    c.put_number_at.ensures c.as_mut_slice.ensures.value at o.width_is (to_z-of_z _ c.args.value c.ranges.value))

pub invariant_of-self : goal.invariant_of-self
invariant_of-self c =
    let o = opened c.self.inside.width c.self.inside.signed c.self.inside.bytes.items c.args.self.now c.self.view_is c.self.invariant in
    (closed c.self.inside.width c.self.inside.signed (with_items c.self.inside.bytes c.put_number_at.new.bytes).items c.args.self.now
    (set c.args.self.now.values c.args.index c.args.value) o.width_is o.signed_is (put c)).1

pub returns : goal.returns
returns c =
    let o = opened c.self.inside.width c.self.inside.signed c.self.inside.bytes.items c.args.self.now c.self.view_is c.self.invariant in
    (closed c.self.inside.width c.self.inside.signed (with_items c.self.inside.bytes c.put_number_at.new.bytes).items c.args.self.now
    (set c.args.self.now.values c.args.index c.args.value) o.width_is o.signed_is (put c)).0
