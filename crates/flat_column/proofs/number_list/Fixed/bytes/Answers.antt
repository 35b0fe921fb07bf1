use Rattle.std.proofs.Common.{◌≡◌, ℕ, ◌*◌, ◌/◌, length, take, ap, ◌∙◌, arith}
use Rattle.std.specs.Int.{byte_len}
use Rattle.std.specs.List.{flat_map}
use Rattle.arrow_spec.specs.Bytes.{number_bytes}
use Rattle.flat_column.proofs.ArrowLemmas.{arrow_number, arrow_numbers, bytes_of, flat_map-same}
use Rattle.flat_column.proofs.NumberLemmas.{opened, Holds-front, Holds-take}
use Rattle.flat_column.proofs.number_list.Fixed.bytes.Goals as goal

pub overflow_mul-size : goal.overflow_mul-size
overflow_mul-size c =
    let o = opened c.self.inside.width c.self.inside.signed c.self.inside.bytes.items c.args.self.now c.self.view_is c.self.invariant in
    let front = Holds-front c.args.self.now.width c.args.self.now.signed c.self.inside.bytes.items c.args.self.now.values c.args.n o.holds c.requires in
    let at : c.size.result * c.args.n ≡ c.args.self.now.width / 8 * c.args.n = ap (λ (n : ℕ). n * c.args.n) c.size.ensures in
    let long = c.self.inside.bytes.ok in
    let small = c.self.inside.bytes.small in
    omega arith

pub split_at-requires : goal.split_at-requires
split_at-requires c =
    let o = opened c.self.inside.width c.self.inside.signed c.self.inside.bytes.items c.args.self.now c.self.view_is c.self.invariant in
    let front = Holds-front c.args.self.now.width c.args.self.now.signed c.self.inside.bytes.items c.args.self.now.values c.args.n o.holds c.requires in
    let at : c.size.result * c.args.n ≡ c.args.self.now.width / 8 * c.args.n = ap (λ (n : ℕ). n * c.args.n) c.size.ensures in
    let same = ap length c.as_slice.ensures.value in
    omega arith

front : (c : goal.After-bytes-1) → c.split_at.result.0.now ≡ flat_map (bytes_of c.args.self.now.width) (take c.args.n c.args.self.now.values)
front c =
    let o = opened c.self.inside.width c.self.inside.signed c.self.inside.bytes.items c.args.self.now c.self.view_is c.self.invariant in
    let at : c.size.result * c.args.n ≡ c.args.self.now.width / 8 * c.args.n = ap (λ (n : ℕ). n * c.args.n) c.size.ensures in
    c.split_at.ensures.front ∙ ap (take (c.size.result * c.args.n)) c.as_slice.ensures.value
    ∙ ap (λ (n : ℕ). take n c.self.inside.bytes.items) at
    ∙ Holds-take c.args.self.now.width c.args.self.now.signed c.self.inside.bytes.items c.args.self.now.values c.args.n o.holds

pub returns-clause-bytes : goal.returns-clause-bytes
returns-clause-bytes c =
    let o = opened c.self.inside.width c.self.inside.signed c.self.inside.bytes.items c.args.self.now c.self.view_is c.self.invariant in
    front c ∙ arrow_numbers c.args.self.now.width (take c.args.n c.args.self.now.values) o.holds.known

pub returns-clause-arrow : goal.returns-clause-arrow
returns-clause-arrow c = λ width same.
    front c
    ∙ ap (λ (w : ℕ). flat_map (bytes_of w) (take c.args.n c.args.self.now.values)) same
    ∙ flat_map-same (bytes_of (8 * byte_len width)) (number_bytes width) (arrow_number width) (take c.args.n c.args.self.now.values)
