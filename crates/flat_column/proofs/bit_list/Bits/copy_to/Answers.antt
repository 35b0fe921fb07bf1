use Rattle.std.proofs.Common.{◌≡◌, ℕ, ◌<◌, ◌-◌, ◌/◌, ◌%◌, ◌^◌, ◌*◌, ◌++◌, List, [], ◌∷◌, length, take, get_or, bit_and, sym, ap, ◌∙◌, arith}
use Rattle.std.proofs.lemmas.List.{append_assoc, get_or_read}
use Rattle.std.proofs.lemmas.Nat.{one_shl}
use Rattle.arrow_spec.specs.Bytes.{bitmap}
use Rattle.flat_column.proofs.BitmapLemmas.{Holds-from, Holds-length, bitmap-take_whole, bitmap-take_part}
use Rattle.flat_column.proofs.bit_list.Bits.copy_to.Goals as goal

pub split_at-requires : goal.split_at-requires
split_at-requires c =
    let h = Holds-from c.self.inside.bytes.items c.self.inside.len c.args.self.now c.self.view_is c.self.invariant in
    let long = Holds-length c.self.inside.bytes.items c.self.inside.len c.args.self.now h in
    let same = c.as_slice.ensures.value in
    rw same (omega arith)

pub index-requires : goal.index-requires
index-requires c =
    let h = Holds-from c.self.inside.bytes.items c.self.inside.len c.args.self.now c.self.view_is c.self.invariant in
    let long = Holds-length c.self.inside.bytes.items c.self.inside.len c.args.self.now h in
    let size = c.self.inside.bytes.ok.0 in
    omega arith

-- the whole bytes before the last are the first of the bitmap
front : (c : goal.Else-n-ne0) → c.split_at.result.0.now ≡ take (c.args.n / 8) (bitmap c.args.self.now)
front c =
    c.split_at.ensures.front ∙ ap (take (c.args.n / 8)) (c.as_slice.ensures.value
    ∙ (Holds-from c.self.inside.bytes.items c.self.inside.len c.args.self.now c.self.view_is c.self.invariant).padded)

pub returns-then-n-ne0-clause-ok : goal.returns-then-n-ne0-clause-ok
returns-then-n-ne0-clause-ok c =
    let h = Holds-from c.self.inside.bytes.items c.self.inside.len c.args.self.now c.self.view_is c.self.invariant in
    let long = Holds-length c.self.inside.bytes.items c.self.inside.len c.args.self.now h in
    let inside : c.args.n / 8 < length c.self.inside.bytes.items = omega arith in
    let whole = c.split_at.ensures.front ∙ ap (take (c.args.n / 8)) (c.as_slice.ensures.value ∙ h.padded) in
    let mask : 1 * 2 ^ (c.args.n % 8) % 256 ≡ 2 ^ (c.args.n % 8) = one_shl (c.args.n % 8) 8 (omega arith) in
    let byte : c.index.result.now ≡ get_or (bitmap c.args.self.now) (c.args.n / 8) 0 =
    get_or_read c.self.inside.bytes.items (c.args.n / 8) c.index.result.now inside c.index.ensures 0
    ∙ ap (λ (bytes : List ℕ). get_or bytes (c.args.n / 8) 0) h.padded in
    let last : bit_and c.index.result.now (1 * 2 ^ (c.args.n % 8) % 256 - 1)
    ≡ bit_and (get_or (bitmap c.args.self.now) (c.args.n / 8) 0) (2 ^ (c.args.n % 8) - 1) =
    ap (λ (b : ℕ). bit_and b (1 * 2 ^ (c.args.n % 8) % 256 - 1)) byte
    ∙ ap (λ (m : ℕ). bit_and (get_or (bitmap c.args.self.now) (c.args.n / 8) 0) (m - 1)) mask in
    c.push_reserved.ensures.items
    ∙ ap (λ (b : ℕ). c.extend_from_slice.new.self.items ++ b ∷ []) last
    ∙ ap (λ (items : List ℕ). items ++ bit_and (get_or (bitmap c.args.self.now) (c.args.n / 8) 0) (2 ^ (c.args.n % 8) - 1) ∷ [])
    (c.in_ok-extend_from_slice.ensures.items ∙ ap (λ (items : List ℕ). items ++ c.split_at.result.0.now) c.reserve.ensures.items
    ∙ ap (λ (bytes : List ℕ). c.args.out.now.items ++ bytes) whole)
    ∙ append_assoc c.args.out.now.items (take (c.args.n / 8) (bitmap c.args.self.now))
    (bit_and (get_or (bitmap c.args.self.now) (c.args.n / 8) 0) (2 ^ (c.args.n % 8) - 1) ∷ [])
    ∙ ap (λ (bytes : List ℕ). c.args.out.now.items ++ bytes) (sym (bitmap-take_part c.args.self.now c.args.n c.requires c.if-n-ne0.true))

pub returns-else-n-ne0-clause-ok : goal.returns-else-n-ne0-clause-ok
returns-else-n-ne0-clause-ok c =
    c.in_ok-extend_from_slice.ensures.items ∙ ap (λ (items : List ℕ). items ++ c.split_at.result.0.now) c.reserve.ensures.items
    ∙ ap (λ (bytes : List ℕ). c.args.out.now.items ++ bytes)
    (front c ∙ sym (bitmap-take_whole c.args.self.now c.args.n c.requires c.if-n-ne0.false))
