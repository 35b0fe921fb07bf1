use Rattle.std.proofs.Common.{◌≡◌, ℕ, ◌*◌, length, take, drop, ap, ◌∙◌, arith}
use Rattle.flat_column.proofs.StripLemmas.{opened, Holds-room, Holds-get}
use Rattle.flat_column.proofs.strip_list.Strips.get.Goals as goal

pub overflow_mul-at : goal.overflow_mul-at
overflow_mul-at c =
    let o = opened c.self.inside.width c.self.inside.bytes.items c.args.self.now c.self.view_is c.self.invariant in
    let room = Holds-room c.args.self.now.width c.self.inside.bytes.items c.args.self.now.values c.args.index o.holds c.requires in
    let at : c.self.inside.width * c.args.index ≡ c.args.self.now.width * c.args.index = ap (λ (n : ℕ). n * c.args.index) o.width_is in
    let long = c.self.inside.bytes.ok in
    let small = c.self.inside.bytes.small in
    omega arith

pub split_at-requires : goal.split_at-requires
split_at-requires c =
    let o = opened c.self.inside.width c.self.inside.bytes.items c.args.self.now c.self.view_is c.self.invariant in
    let room = Holds-room c.args.self.now.width c.self.inside.bytes.items c.args.self.now.values c.args.index o.holds c.requires in
    let at : c.self.inside.width * c.args.index ≡ c.args.self.now.width * c.args.index = ap (λ (n : ℕ). n * c.args.index) o.width_is in
    let same = ap length c.as_slice.ensures.value in
    omega arith

pub split_at-requires-2 : goal.split_at-requires-2
split_at-requires-2 c =
    let o = opened c.self.inside.width c.self.inside.bytes.items c.args.self.now c.self.view_is c.self.invariant in
    let room = Holds-room c.args.self.now.width c.self.inside.bytes.items c.args.self.now.values c.args.index o.holds c.requires in
    let at : c.self.inside.width * c.args.index ≡ c.args.self.now.width * c.args.index = ap (λ (n : ℕ). n * c.args.index) o.width_is in
    let wide = o.width_is in
    let same = ap length c.as_slice.ensures.value in
    let back = c.split_at.ensures.back_len in
    omega arith

pub returns-clause-value : goal.returns-clause-value
returns-clause-value c =
    let o = opened c.self.inside.width c.self.inside.bytes.items c.args.self.now c.self.view_is c.self.invariant in
    let room = Holds-room c.args.self.now.width c.self.inside.bytes.items c.args.self.now.values c.args.index o.holds c.requires in
    let at : c.self.inside.width * c.args.index ≡ c.args.self.now.width * c.args.index = ap (λ (n : ℕ). n * c.args.index) o.width_is in
    let bytes : c.split_at.result.1.now ≡ drop (c.args.self.now.width * c.args.index) c.self.inside.bytes.items =
    c.split_at.ensures.back ∙ ap (drop (c.self.inside.width * c.args.index)) c.as_slice.ensures.value
    ∙ ap (λ (n : ℕ). drop n c.self.inside.bytes.items) at in
    Holds-get c.args.self.now.width c.self.inside.bytes.items c.split_at-2.result.0.now c.args.self.now.values c.args.index o.holds c.requires
    (c.split_at-2.ensures.front ∙ ap (take c.self.inside.width) bytes
    ∙ ap (λ (n : ℕ). take n (drop (c.args.self.now.width * c.args.index) c.self.inside.bytes.items)) o.width_is)

pub returns-clause-width : goal.returns-clause-width
returns-clause-width c =
    let o = opened c.self.inside.width c.self.inside.bytes.items c.args.self.now c.self.view_is c.self.invariant in
    c.split_at-2.ensures.front_len ∙ o.width_is
