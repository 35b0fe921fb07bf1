use Rattle.std.proofs.Common.{slice_get, Some, refl, ◌≡◌, ℕ, ◌*◌, ◌/◌, length, drop, ap, ◌∙◌, arith}
use Rattle.std.proofs.lemmas.Int.{to_z-of_z}
use Rattle.std.specs.Int.{w128}
use Rattle.std.proofs.Common.{SFits, rules}
use Rattle.flat_column.specs.Numbers.{IsInRange}
use Rattle.flat_column.proofs.NumberLemmas.{opened, Holds-room, Holds-get}
use Rattle.flat_column.proofs.number_list.Fixed.get.Goals as goal

pub overflow_mul-size : goal.overflow_mul-size
overflow_mul-size c =
    let o = opened c.self.inside.width c.self.inside.signed c.self.inside.bytes.items c.args.self.now c.self.view_is c.self.invariant in
    let room = Holds-room c.args.self.now.width c.args.self.now.signed c.self.inside.bytes.items c.args.self.now.values c.args.index o.holds c.requires in
    let at : c.size.result * c.args.index ≡ c.args.self.now.width / 8 * c.args.index = ap (λ (n : ℕ). n * c.args.index) c.size.ensures in
    let long = c.self.inside.bytes.ok in
    let small = c.self.inside.bytes.small in
    omega arith

pub first_number-requires-clause-room : goal.first_number-requires-clause-room
first_number-requires-clause-room c =
    let o = opened c.self.inside.width c.self.inside.signed c.self.inside.bytes.items c.args.self.now c.self.view_is c.self.invariant in
    let room = Holds-room c.args.self.now.width c.args.self.now.signed c.self.inside.bytes.items c.args.self.now.values c.args.index o.holds c.requires in
    let at : c.size.result * c.args.index ≡ c.args.self.now.width / 8 * c.args.index = ap (λ (n : ℕ). n * c.args.index) c.size.ensures in
    let wide : c.self.inside.width / 8 ≡ c.args.self.now.width / 8 = ap (λ (n : ℕ). n / 8) o.width_is in
    let same = ap length c.as_slice.ensures.value in
    let back = c.split_at.ensures.back_len in
    omega arith

got : (c : goal.After-first_number) → (slice_get c.args.self.now.values c.args.index ≡ Some c.first_number.result) × IsInRange c.args.self.now.width c.args.self.now.signed c.first_number.result
got c =
    let o = opened c.self.inside.width c.self.inside.signed c.self.inside.bytes.items c.args.self.now c.self.view_is c.self.invariant in
    let at : c.size.result * c.args.index ≡ c.args.self.now.width / 8 * c.args.index = ap (λ (n : ℕ). n * c.args.index) c.size.ensures in
    let bytes : c.split_at.result.1.now ≡ drop (c.args.self.now.width / 8 * c.args.index) c.self.inside.bytes.items =
    c.split_at.ensures.back ∙ ap (drop (c.size.result * c.args.index)) c.as_slice.ensures.value
    ∙ ap (λ (n : ℕ). drop n c.self.inside.bytes.items) at in
    Holds-get c.args.self.now.width c.args.self.now.signed c.self.inside.bytes.items c.args.self.now.values c.args.index c.first_number.result o.holds c.requires
    (c.first_number.ensures ∙ rw (o.width_is, o.signed_is, bytes) refl)

pub returns-clause-value : goal.returns-clause-value
returns-clause-value c =
    let fits : SFits w128 c.first_number.result = search rules in
    rw (to_z-of_z w128 c.first_number.result fits) (got c).0

pub returns-clause-in_range : goal.returns-clause-in_range
returns-clause-in_range c =
    let fits : SFits w128 c.first_number.result = search rules in
    rw (to_z-of_z w128 c.first_number.result fits) (got c).1

pub split_at-requires : goal.split_at-requires
split_at-requires c =
    let o = opened c.self.inside.width c.self.inside.signed c.self.inside.bytes.items c.args.self.now c.self.view_is c.self.invariant in
    let room = Holds-room c.args.self.now.width c.args.self.now.signed c.self.inside.bytes.items c.args.self.now.values c.args.index o.holds c.requires in
    let at : c.size.result * c.args.index ≡ c.args.self.now.width / 8 * c.args.index = ap (λ (n : ℕ). n * c.args.index) c.size.ensures in
    let same = ap length c.as_slice.ensures.value in
    omega arith
