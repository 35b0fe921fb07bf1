use Rattle.std.proofs.Common.{◌≡◌, ◌≢◌, ℕ, Bool, ◌≤◌, ◌+◌, ◌-◌, ◌/◌, ◌%◌, ◌^◌, ◌*◌, List, [], ◌∷◌, length, take, get_or, bit_and, count_ones, sym, ap, ◌∙◌, arith, Fits, w8}
use Rattle.std.proofs.lemmas.List.FromFn.{length-map-range_with_len}
use Rattle.std.proofs.lemmas.List.Sums.{count_by-le-length, sum_by-append}
use Rattle.std.proofs.lemmas.List.Folds.{sum_by-replicate}
use Rattle.std.proofs.lemmas.Nat.{one_shl}
use Rattle.std.specs.List.{count_by, sum_by}
use Rattle.arrow_spec.specs.Bytes.{bitmap}
use Rattle.flat_column.specs.Bitmap.{AreBytes, bitmap_bit, bitmap_bits}
use Rattle.flat_column.proofs.BitmapLemmas.{bitmap-take_whole, bitmap-take_part, sum_by-bitmap, take_bits, whole_bits}
use Rattle.flat_column.proofs.bit_list.ones_among.Goals as goal

from_fits : (bytes : List ℕ) → ((i : ℕ) → Fits w8 (get_or bytes i 0)) → AreBytes bytes
from_fits bytes h = record { below = λ k. let byte = h k in omega arith }

abbrev all_bits : List ℕ → List Bool
all_bits bytes = bitmap_bits bytes (8 * length bytes)

many : (bytes : List ℕ) → length (all_bits bytes) ≡ 8 * length bytes
many bytes = length-map-range_with_len (bitmap_bit bytes) 0 (8 * length bytes)

-- the ones of the first whole bytes
front_ones : (bytes : List ℕ) (n : ℕ) → AreBytes bytes → n ≤ 8 * length bytes → n % 8 ≡ 0
    → sum_by count_ones (take (n / 8) bytes) ≡ count_by (λ bit. bit) (bitmap_bits bytes n)
front_ones bytes n are within whole =
    let enough : n ≤ length (all_bits bytes) = omega (arith, many bytes, within) in
    ap (λ (b : List ℕ). sum_by count_ones (take (n / 8) b)) (whole_bits bytes are)
    ∙ ap (sum_by count_ones) (sym (bitmap-take_whole (all_bits bytes) n enough whole))
    ∙ sum_by-bitmap (take n (all_bits bytes))
    ∙ ap (count_by (λ bit. bit)) (take_bits bytes n (8 * length bytes) within)

few : (bytes : List ℕ) (n : ℕ) → count_by (λ bit. bit) (bitmap_bits bytes n) ≤ n
few bytes n =
    let most : count_by (λ bit. bit) (bitmap_bits bytes n) ≤ length (bitmap_bits bytes n) = count_by-le-length (λ bit. bit) (bitmap_bits bytes n) in
    let long : length (bitmap_bits bytes n) ≡ n = length-map-range_with_len (bitmap_bit bytes) 0 n in
    omega (arith, most, long)

-- so many fit
front_few : (bytes : List ℕ) (n : ℕ) → AreBytes bytes → n ≤ 8 * length bytes → sum_by count_ones (take (n / 8) bytes) ≤ n
front_few bytes n are within =
    let whole : 8 * (n / 8) % 8 ≡ 0 = omega arith in
    let same : 8 * (n / 8) / 8 ≡ n / 8 = omega arith in
    let ones = front_ones bytes (8 * (n / 8)) are (omega (arith, within)) whole in
    let most = few bytes (8 * (n / 8)) in
    let front : sum_by count_ones (take (n / 8) bytes) ≡ sum_by count_ones (take (8 * (n / 8) / 8) bytes) =
    ap (λ (k : ℕ). sum_by count_ones (take k bytes)) (sym same) in
    omega (arith, ones, most, front)

sum_one : (y : ℕ) → sum_by count_ones (y ∷ []) ≡ count_ones y
sum_one y = sum_by-replicate count_ones 1 y ∙ omega arith

-- the ones of the first whole bytes, and of the first bits of the next
part_ones : (bytes : List ℕ) (n : ℕ) → AreBytes bytes → n ≤ 8 * length bytes → n % 8 ≢ 0
    → sum_by count_ones (take (n / 8) bytes) + count_ones (bit_and (get_or bytes (n / 8) 0) (2 ^ (n % 8) - 1))
    ≡ count_by (λ bit. bit) (bitmap_bits bytes n)
part_ones bytes n are within part =
    let bits = all_bits bytes in
    let enough : n ≤ length bits = omega (arith, many bytes, within) in
    let last = bit_and (get_or (bitmap bits) (n / 8) 0) (2 ^ (n % 8) - 1) in
    ap (λ (b : List ℕ). sum_by count_ones (take (n / 8) b) + count_ones (bit_and (get_or b (n / 8) 0) (2 ^ (n % 8) - 1))) (whole_bits bytes are)
    ∙ ap (λ (k : ℕ). sum_by count_ones (take (n / 8) (bitmap bits)) + k) (sym (sum_one last))
    ∙ sym (ap (sum_by count_ones) (bitmap-take_part bits n enough part)
    ∙ sum_by-append count_ones (take (n / 8) (bitmap bits)) (last ∷ []))
    ∙ sum_by-bitmap (take n bits)
    ∙ ap (count_by (λ bit. bit)) (take_bits bytes n (8 * length bytes) within)

pub ones-front-requires : goal.ones-front-requires
ones-front-requires c =
    let front : sum_by count_ones c.split_at.result.0.now ≡ sum_by count_ones (take (c.args.n / 8) c.args.bitmap.now) =
    ap (sum_by count_ones) c.split_at.ensures.front in
    let most = front_few c.args.bitmap.now c.args.n (from_fits c.args.bitmap.now c.type_inv.bitmap) c.requires in
    let fits = c.ranges.n.fits in
    omega arith

pub returns-then-n-eq0 : goal.returns-then-n-eq0
returns-then-n-eq0 c =
    c.ones-front.ensures ∙ ap (sum_by count_ones) c.split_at.ensures.front
    ∙ front_ones c.args.bitmap.now c.args.n (from_fits c.args.bitmap.now c.type_inv.bitmap) c.requires c.if-n-eq0.true

total : (c : goal.After-shared_slice_known-2-1)
    → c.ones-front.result + count_ones (bit_and (get_or c.args.bitmap.now (c.args.n / 8) 0) (1 * 2 ^ (c.args.n % 8) % 256 - 1))
    ≡ count_by (λ bit. bit) (bitmap_bits c.args.bitmap.now c.args.n)
total c =
    let mask : 1 * 2 ^ (c.args.n % 8) % 256 ≡ 2 ^ (c.args.n % 8) = one_shl (c.args.n % 8) 8 (omega arith) in
    ap (λ (k : ℕ). k + count_ones (bit_and (get_or c.args.bitmap.now (c.args.n / 8) 0) (1 * 2 ^ (c.args.n % 8) % 256 - 1)))
    (c.ones-front.ensures ∙ ap (sum_by count_ones) c.split_at.ensures.front)
    ∙ ap (λ (m : ℕ). sum_by count_ones (take (c.args.n / 8) c.args.bitmap.now) + count_ones (bit_and (get_or c.args.bitmap.now (c.args.n / 8) 0) (m - 1))) mask
    ∙ part_ones c.args.bitmap.now c.args.n (from_fits c.args.bitmap.now c.type_inv.bitmap) c.requires c.if-n-eq0.false

pub overflow_add-result : goal.overflow_add-result
overflow_add-result c =
    let whole = total c in
    let most = few c.args.bitmap.now c.args.n in
    let fits = c.ranges.n.fits in
    omega arith

pub returns : goal.returns
returns c = total c
