-- A bitmap by its bits.
use Rattle.std.proofs.Common.{◌≡◌, ◌≢◌, ℕ, zero, suc, ◌+◌, ◌-◌, ◌*◌, ◌/◌, ◌%◌, ◌^◌, ◌<◌, ◌≤◌, Bool, true, false, cond, eqb, List, [], ◌∷◌, ◌++◌, length, map, take, drop, set, get_or, replicate, refl, sym, ap, ◌∙◌, arith, bit_and, bit_or, w8, subst, inl, inr, min, add_comm}
use Rattle.std.proofs.lemmas.Grind.{common_steps}
use Rattle.std.proofs.lemmas.List.{set_past, take_all, length-take-le, length_push, get_or_push, length-map, drop-drop, ext_get_or, get_or_past, get_or-take, get_or-drop, length-take, get_or-set_same, get_or-set_other, length-set, length-append, length-replicate, get_or-replicate, get_or_append_left, get_or-append_right}
use Rattle.std.proofs.lemmas.List.FromFn.{fill_by_all, get_or-map-range_with_len, length-map-range_with_len, take-map-range_with_len}
use Rattle.std.proofs.lemmas.Nat.Bits.{shr_and_one, bit_at-lt, bit_at_lowest, bit_at-suc, bit_at-zero, bit_at_set_same, bit_at_set_other, bit_at_clear_same, bit_at_clear_other, bit_at_and, bit_at_ones, bit_at_ones_above, same_from_bits_below}
use Rattle.std.proofs.lemmas.Option.{slice_get-get_or}
use Rattle.std.proofs.lemmas.Bool.{cases_lt, cases_eq}
use Rattle.std.proofs.lemmas.Nat.{pow_pos, and_le_l, or_of_8, ones_cat}
use Rattle.std.proofs.lemmas.List.Sums.{sum_by-cons, sum_by-append, count_by-le-length}
use Rattle.std.proofs.Math.Seq.{take-add}
use lib.Count.{ones, ones_in}
use Rattle.std.specs.Prelude.{count_ones, Some, slice_get}
use Rattle.std.specs.Int.{div_ceil, bit_at, from_le_bytes, w64}
use Rattle.std.specs.List.{sum_by, count_by}
use Rattle.std.specs.Simd.{first_chunks}
use Rattle.flat_column.specs.Bitmap.{AreBytes, IsPadded, PutsBit, bitmap_bit, bitmap_bits}
use Rattle.arrow_spec.specs.Bytes.{byte_of_bits, bitmap}

-- What follows where a number is below another, and where it is not, follows anyway.
by_cases_lt : {P : Type 0} (m n : ℕ) → (m < n → P) → (n ≤ m → P) → P
by_cases_lt m n f g = elim (cases_lt m n) [ inl h ↦ f h | inr h ↦ g h ]

-- there are as many chunks as were asked for
pub length-first_chunks : {X : Type 0} (n k : ℕ) (xs : List X) → length (first_chunks n k xs) ≡ k
length-first_chunks n zero xs = refl
length-first_chunks n (suc k) xs = ap suc (length-first_chunks n k (drop n xs))

-- a bitmap has a byte for each eight bits that were begun
pub length-bitmap : (bits : List Bool) → length (bitmap bits) ≡ (length bits + 7) / 8
length-bitmap bits = length-map _ _ ∙ length-first_chunks 8 ((length bits + 7) / 8) bits

-- what is made of the chunk at a place is made of its elements of the list
pub get_or-map-first_chunks : {X Y : Type 0} (f : List X → Y) (n k : ℕ) (xs : List X) (j : ℕ) (d : Y) → j < k
    → get_or (map f (first_chunks n k xs)) j d ≡ f (take n (drop (n * j) xs))
get_or-map-first_chunks f n zero xs j d h = absurd (omega arith)
get_or-map-first_chunks f n (suc k) xs zero d h = let e : n * zero ≡ 0 = omega arith in rw e refl
get_or-map-first_chunks f n (suc k) xs (suc j) d h =
    let e : n * suc j ≡ n + n * j = omega arith in
    get_or-map-first_chunks f n k (drop n xs) j d (omega arith)
    ∙ ap (λ (ys : List _). f (take n ys)) (drop-drop (n * j) n xs ∙ ap (λ (m : ℕ). drop m xs) (sym e))

-- the byte of so many bits is below that power of two
pub byte_of_bits-lt : (bits : List Bool) (k : ℕ) → length bits ≤ k → byte_of_bits bits < 2 ^ k
byte_of_bits-lt [] k h = pow_pos k
byte_of_bits-lt (bit ∷ bits) zero h = absurd (omega arith)
byte_of_bits-lt (true ∷ bits) (suc k) h = let r = byte_of_bits-lt bits k (omega arith) in omega arith
byte_of_bits-lt (false ∷ bits) (suc k) h = let r = byte_of_bits-lt bits k (omega arith) in omega arith

-- each bit of a byte is the one at its place, and zero behind the list
pub bit_at-byte_of_bits : (bits : List Bool) (i : ℕ) → bit_at (byte_of_bits bits) i ≡ cond (get_or bits i false) 1 0
bit_at-byte_of_bits [] i = bit_at-zero i
bit_at-byte_of_bits (true ∷ bits) zero = bit_at_lowest (1 + 2 * byte_of_bits bits) ∙ omega arith
bit_at-byte_of_bits (false ∷ bits) zero = bit_at_lowest (0 + 2 * byte_of_bits bits) ∙ omega arith
bit_at-byte_of_bits (true ∷ bits) (suc i) =
    let half : (1 + 2 * byte_of_bits bits) / 2 ≡ byte_of_bits bits = omega arith in
    bit_at-suc (1 + 2 * byte_of_bits bits) i ∙ ap (λ (n : ℕ). bit_at n i) half ∙ bit_at-byte_of_bits bits i
bit_at-byte_of_bits (false ∷ bits) (suc i) =
    let half : (0 + 2 * byte_of_bits bits) / 2 ≡ byte_of_bits bits = omega arith in
    bit_at-suc (0 + 2 * byte_of_bits bits) i ∙ ap (λ (n : ℕ). bit_at n i) half ∙ bit_at-byte_of_bits bits i

-- The number of a bit is one exactly where the bit is set.
one_or_zero : (b : Bool) → eqb (cond b 1 0) 1 ≡ b
one_or_zero true = refl
one_or_zero false = refl

-- a bitmap has the bits that it was made of, and zeros after them
pub bitmap_bit-bitmap : (bits : List Bool) (i : ℕ) → bitmap_bit (bitmap bits) i ≡ get_or bits i false
bitmap_bit-bitmap bits i =
    by_cases_lt (i / 8) ((length bits + 7) / 8)
    (λ below.
    let byte = get_or-map-first_chunks byte_of_bits 8 ((length bits + 7) / 8) bits (i / 8) 0 below in
    let place : 8 * (i / 8) + i % 8 ≡ i = omega arith in
    let low : i % 8 < 8 = omega arith in
    ap (λ (n : ℕ). eqb (bit_at n (i % 8)) 1) byte
    ∙ ap (λ (n : ℕ). eqb n 1) (bit_at-byte_of_bits (take 8 (drop (8 * (i / 8)) bits)) (i % 8))
    ∙ one_or_zero (get_or (take 8 (drop (8 * (i / 8)) bits)) (i % 8) false)
    ∙ get_or-take 8 (drop (8 * (i / 8)) bits) (i % 8) false low
    ∙ get_or-drop (8 * (i / 8)) bits (i % 8) false
    ∙ ap (λ (n : ℕ). get_or bits n false) place)
    (λ past.
    let none = get_or_past (bitmap bits) (i / 8) 0 (rw length-bitmap past) in
    ap (λ (n : ℕ). eqb (bit_at n (i % 8)) 1) none
    ∙ ap (λ (n : ℕ). eqb n 1) (bit_at-zero (i % 8))
    ∙ sym (get_or_past bits i false (omega arith)))

-- the bits of a bitmap are those that it was made of
pub bitmap_bits-bitmap : (bits : List Bool) → bitmap_bits (bitmap bits) (length bits) ≡ bits
bitmap_bits-bitmap bits =
    sym (fill_by_all (bitmap_bit (bitmap bits)) bits (length bits) false refl
    (λ k h. sym (bitmap_bit-bitmap bits k)))

-- Numbers below two of which both are one, or neither is, are the same.
same_bit : (a b : ℕ) → a < 2 → b < 2 → eqb a 1 ≡ eqb b 1 → a ≡ b
same_bit a b p q e = grind (arith, common_steps)

-- two lists of bytes with the same bits are one
pub same_bitmaps : (xs ys : List ℕ) → length xs ≡ length ys → AreBytes xs → AreBytes ys
    → ((i : ℕ) → i < 8 * length xs → bitmap_bit xs i ≡ bitmap_bit ys i) → xs ≡ ys
same_bitmaps xs ys same p q bits =
    ext_get_or 0 xs ys same (λ k h.
    same_from_bits_below 8 (get_or xs k 0) (get_or ys k 0) (p.below k) (q.below k) (λ j low.
    let byte : (8 * k + j) / 8 ≡ k = omega arith in
    let place : (8 * k + j) % 8 ≡ j = omega arith in
    let e = rw (byte, place) at (bits (8 * k + j) (omega arith)) in
    same_bit (bit_at (get_or xs k 0) j) (bit_at (get_or ys k 0) j) (bit_at-lt (get_or xs k 0) j) (bit_at-lt (get_or ys k 0) j) e))

-- a bitmap is made of bytes
pub AreBytes-bitmap : (bits : List Bool) → AreBytes (bitmap bits)
AreBytes-bitmap bits = record {
  below = λ k.
      by_cases_lt k ((length bits + 7) / 8)
      (λ below.
      rw (get_or-map-first_chunks byte_of_bits 8 ((length bits + 7) / 8) bits k 0 below)
      (byte_of_bits-lt (take 8 (drop (8 * k) bits)) 8 (rw length-take (omega arith))))
      (λ past. rw (get_or_past (bitmap bits) k 0 (rw length-bitmap past)) (omega arith));
}

-- the bits of bytes that are the bitmap of a list
pub bitmap_bits_is : (bytes : List ℕ) (len : ℕ) (bits : List Bool) → bytes ≡ bitmap bits → len ≡ length bits
    → bitmap_bits bytes len ≡ bits
bitmap_bits_is bytes len bits e n = rw (e, n) (bitmap_bits-bitmap bits)

-- so the bytes are the bitmap of their own bits
pub bitmap_is : (bytes : List ℕ) (len : ℕ) (bits : List Bool) → bytes ≡ bitmap bits → len ≡ length bits
    → bytes ≡ bitmap (bitmap_bits bytes len)
bitmap_is bytes len bits e n = e ∙ ap bitmap (sym (bitmap_bits_is bytes len bits e n))

-- ---- zeros at the end

-- Zeros have zero at each place, also behind their end.
get_or-zeros : (m i : ℕ) → get_or {A = ℕ} (replicate m 0) i 0 ≡ 0
get_or-zeros m i =
    by_cases_lt i m
    (λ below. get_or-replicate m i 0 0 below)
    (λ past. get_or_past (replicate {A = ℕ} m 0) i 0 (rw length-replicate past))

-- Zero bytes at the end of a bitmap change none of its bits.
bitmap_bit-append_zeros : (bytes : List ℕ) (m i : ℕ) → bitmap_bit (bytes ++ replicate m 0) i ≡ bitmap_bit bytes i
bitmap_bit-append_zeros bytes m i =
    by_cases_lt (i / 8) (length bytes)
    (λ below. ap (λ (n : ℕ). eqb (bit_at n (i % 8)) 1) (get_or_append_left bytes (replicate m 0) 0 (i / 8) below))
    (λ past.
    ap (λ (n : ℕ). eqb (bit_at n (i % 8)) 1)
    (get_or-append_right bytes (replicate m 0) (length bytes) (i / 8) 0 refl past
    ∙ get_or-zeros m (i / 8 - length bytes) ∙ sym (get_or_past bytes (i / 8) 0 past)))

-- Bytes with zeros at their end are bytes.
AreBytes-append_zeros : (bytes : List ℕ) (m : ℕ) → AreBytes bytes → AreBytes (bytes ++ replicate m 0)
AreBytes-append_zeros bytes m h = record {
  below = λ k.
      by_cases_lt k (length bytes)
      (λ below. rw (get_or_append_left bytes (replicate m 0) 0 k below) (h.below k))
      (λ past. rw (get_or-append_right bytes (replicate m 0) (length bytes) k 0 refl past, get_or-zeros m (k - length bytes)) (omega arith));
}

-- Bits that are off at the end of a list leave the bit at each place.
get_or-append_falses : (bits : List Bool) (n i : ℕ) → get_or (bits ++ replicate n false) i false ≡ get_or bits i false
get_or-append_falses bits n i =
    by_cases_lt i (length bits)
    (λ below. get_or_append_left bits (replicate n false) false i below)
    (λ past.
    get_or-append_right bits (replicate n false) (length bits) i false refl past
    ∙ by_cases_lt (i - length bits) n
    (λ inside. get_or-replicate n (i - length bits) false false inside)
    (λ after. get_or_past (replicate n false) (i - length bits) false (rw length-replicate after))
    ∙ sym (get_or_past bits i false past))

-- zero bits at the end of a list are zero bytes at the end of its bitmap
pub bitmap-append_falses : (bits : List Bool) (n m : ℕ) → (length bits + 7) / 8 + m ≡ (length bits + n + 7) / 8
    → bitmap (bits ++ replicate n false) ≡ bitmap bits ++ replicate m 0
bitmap-append_falses bits n m fits =
    let longer : length (bits ++ replicate n false) ≡ length bits + n = length-append bits (replicate n false) ∙ ap (λ (k : ℕ). length bits + k) (length-replicate n false) in
    let same : length (bitmap (bits ++ replicate n false)) ≡ length (bitmap bits ++ replicate m 0) =
    length-bitmap (bits ++ replicate n false) ∙ ap (λ (k : ℕ). (k + 7) / 8) longer ∙ sym fits
    ∙ sym (length-append (bitmap bits) (replicate m 0) ∙ ap (λ (k : ℕ). k + length (replicate {A = ℕ} m 0)) (length-bitmap bits)
    ∙ ap (λ (k : ℕ). (length bits + 7) / 8 + k) (length-replicate {A = ℕ} m 0)) in
    same_bitmaps (bitmap (bits ++ replicate n false)) (bitmap bits ++ replicate m 0) same
    (AreBytes-bitmap (bits ++ replicate n false))
    (AreBytes-append_zeros (bitmap bits) m (AreBytes-bitmap bits))
    (λ i h.
    bitmap_bit-bitmap (bits ++ replicate n false) i ∙ get_or-append_falses bits n i
    ∙ sym (bitmap_bit-append_zeros (bitmap bits) m i ∙ bitmap_bit-bitmap bits i))

-- ---- a bit put

-- Bytes of which one was replaced by another byte are bytes.
AreBytes-set : (bytes : List ℕ) (i b : ℕ) → AreBytes bytes → b < 256 → AreBytes (set bytes i b)
AreBytes-set bytes i b h small = record {
  below = λ k.
      elim (cases_eq k i) [
        | inl here ↦ by_cases_lt i (length bytes)
            (λ below. rw (here, get_or-set_same bytes i b 0 below) small)
            (λ past. rw (set_past bytes i b past) (h.below k))
        | inr there ↦ rw (get_or-set_other bytes i k b 0 there) (h.below k)
      ];
}

-- A bitmap with a bit put into one byte has the bits of the list with that bit put.
bit_put : (bits : List Bool) (index : ℕ) (bit : Bool) (new : ℕ) → index < length bits
    → PutsBit (get_or (bitmap bits) (index / 8) 0) new (index % 8) bit
    → (i : ℕ) → bitmap_bit (set (bitmap bits) (index / 8) new) i ≡ get_or (set bits index bit) i false
bit_put bits index bit new within puts i =
    let in_bytes : index / 8 < length (bitmap bits) = rw length-bitmap (omega arith) in
    elim (cases_eq i index) [
      | inl here ↦
          rw here (
          ap (λ (n : ℕ). eqb (bit_at n (index % 8)) 1) (get_or-set_same (bitmap bits) (index / 8) new 0 in_bytes)
          ∙ ap (λ (n : ℕ). eqb n 1) puts.same ∙ one_or_zero bit ∙ sym (get_or-set_same bits index bit false within))
      | inr there ↦
          elim (cases_eq (i / 8) (index / 8)) [
            | inl byte ↦
                let low : i % 8 ≢ index % 8 = λ e. there (omega arith) in
                rw (byte, get_or-set_same (bitmap bits) (index / 8) new 0 in_bytes, puts.others (i % 8) (omega arith) low)
                (rw (← byte) (bitmap_bit-bitmap bits i) ∙ sym (get_or-set_other bits index i bit false there))
            | inr apart ↦
                ap (λ (n : ℕ). eqb (bit_at n (i % 8)) 1) (get_or-set_other (bitmap bits) (index / 8) (i / 8) new 0 apart)
                ∙ bitmap_bit-bitmap bits i ∙ sym (get_or-set_other bits index i bit false there)
          ]
    ]

-- a bit put into a list is a bit put into a byte of its bitmap
pub bitmap-set : (bits : List Bool) (index : ℕ) (bit : Bool) (new : ℕ) → index < length bits
    → PutsBit (get_or (bitmap bits) (index / 8) 0) new (index % 8) bit
    → set (bitmap bits) (index / 8) new ≡ bitmap (set bits index bit)
bitmap-set bits index bit new within puts =
    let same : length (set (bitmap bits) (index / 8) new) ≡ length (bitmap (set bits index bit)) =
    length-set (bitmap bits) (index / 8) new ∙ length-bitmap bits
    ∙ sym (length-bitmap (set bits index bit) ∙ ap (λ (k : ℕ). (k + 7) / 8) (length-set bits index bit)) in
    same_bitmaps (set (bitmap bits) (index / 8) new) (bitmap (set bits index bit)) same
    (AreBytes-set (bitmap bits) (index / 8) new (AreBytes-bitmap bits) puts.byte)
    (AreBytes-bitmap (set bits index bit))
    (λ i h. bit_put bits index bit new within puts i ∙ sym (bitmap_bit-bitmap (set bits index bit) i))

-- ---- the first bits

-- A mask of the low bits leaves each bit below its width.
bit_at-low : (b n i : ℕ) → i < n → bit_at (bit_and b (2 ^ n - 1)) i ≡ bit_at b i
bit_at-low b n i below =
    bit_at_and b (2 ^ n - 1) i ∙ ap (λ (k : ℕ). min (bit_at b i) k) (bit_at_ones n i below)
    ∙ (let small = bit_at-lt b i in omega arith)

-- A mask of the low bits turns off each bit from its width on.
bit_at-high : (b n i : ℕ) → n ≤ i → bit_at (bit_and b (2 ^ n - 1)) i ≡ 0
bit_at-high b n i past =
    bit_at_and b (2 ^ n - 1) i ∙ ap (λ (k : ℕ). min (bit_at b i) k) (bit_at_ones_above n i past) ∙ omega arith

-- The first of some bytes are bytes.
AreBytes-take : (bytes : List ℕ) (n : ℕ) → AreBytes bytes → AreBytes (take n bytes)
AreBytes-take bytes n h = record {
  below = λ k.
      by_cases_lt k n
      (λ below. rw (get_or-take n bytes k 0 below) (h.below k))
      (λ past. rw (get_or_past (take n bytes) k 0 (rw length-take (omega arith))) (omega arith));
}

-- Those behind the first of some bytes are bytes.
AreBytes-drop : (bytes : List ℕ) (n : ℕ) → AreBytes bytes → AreBytes (drop n bytes)
AreBytes-drop bytes n h = record { below = λ k. rw (get_or-drop n bytes k 0) (h.below (n + k)) }

-- Bytes with a byte more at the end are bytes.
AreBytes-push : (bytes : List ℕ) (b : ℕ) → AreBytes bytes → b < 256 → AreBytes (bytes ++ b ∷ [])
AreBytes-push bytes b h small = record {
  below = λ k.
      by_cases_lt k (length bytes)
      (λ below. rw (get_or_append_left bytes (b ∷ []) 0 k below) (h.below k))
      (λ past. elim (cases_eq k (length bytes)) [
        | inl last ↦ rw (get_or_push bytes b 0 k (sym last)) small
        | inr after ↦ rw (get_or_past (bytes ++ b ∷ []) k 0 (rw length_push (omega arith))) (omega arith)
      ]);
}

-- The bitmap of the first bits has a byte for each eight that were begun.
length-bitmap-take : (bits : List Bool) (n : ℕ) → n ≤ length bits → length (bitmap (take n bits)) ≡ (n + 7) / 8
length-bitmap-take bits n within =
    length-bitmap (take n bits) ∙ ap (λ (k : ℕ). (k + 7) / 8) (length-take-le n bits within)

-- whole bytes of a bitmap are the bitmap of their bits
pub bitmap-take_whole : (bits : List Bool) (n : ℕ) → n ≤ length bits → n % 8 ≡ 0
    → bitmap (take n bits) ≡ take (n / 8) (bitmap bits)
bitmap-take_whole bits n within whole =
    let long : length (bitmap (take n bits)) ≡ n / 8 = length-bitmap-take bits n within ∙ omega arith in
    let inside : n / 8 ≤ length (bitmap bits) = rw length-bitmap (omega arith) in
    same_bitmaps (bitmap (take n bits)) (take (n / 8) (bitmap bits))
    (long ∙ sym (length-take-le (n / 8) (bitmap bits) inside))
    (AreBytes-bitmap (take n bits)) (AreBytes-take (bitmap bits) (n / 8) (AreBytes-bitmap bits))
    (λ i h.
    let low : i < 8 * (n / 8) = rw long at h in
    let byte : i / 8 < n / 8 = omega arith in
    bitmap_bit-bitmap (take n bits) i ∙ get_or-take n bits i false (omega arith)
    ∙ sym (ap (λ (k : ℕ). eqb (bit_at k (i % 8)) 1) (get_or-take (n / 8) (bitmap bits) (i / 8) 0 byte)
    ∙ bitmap_bit-bitmap bits i))

-- and the first bits of one byte more, with the byte's other bits off
pub bitmap-take_part : (bits : List Bool) (n : ℕ) → n ≤ length bits → n % 8 ≢ 0
    → bitmap (take n bits)
    ≡ take (n / 8) (bitmap bits) ++ bit_and (get_or (bitmap bits) (n / 8) 0) (2 ^ (n % 8) - 1) ∷ []
bitmap-take_part bits n within part =
    let last = bit_and (get_or (bitmap bits) (n / 8) 0) (2 ^ (n % 8) - 1) in
    let front = take (n / 8) (bitmap bits) in
    let long : length (bitmap (take n bits)) ≡ n / 8 + 1 = length-bitmap-take bits n within ∙ omega arith in
    let inside : n / 8 ≤ length (bitmap bits) = rw length-bitmap (omega arith) in
    let front_long : length front ≡ n / 8 = length-take-le (n / 8) (bitmap bits) inside in
    let small : last < 256 =
    let a = and_le_l (get_or (bitmap bits) (n / 8) 0) (2 ^ (n % 8) - 1) in
    let b = (AreBytes-bitmap bits).below (n / 8) in omega arith in
    same_bitmaps (bitmap (take n bits)) (front ++ last ∷ [])
    (long ∙ sym (length_push front last ∙ ap (λ (k : ℕ). k + 1) front_long))
    (AreBytes-bitmap (take n bits))
    (AreBytes-push front last (AreBytes-take (bitmap bits) (n / 8) (AreBytes-bitmap bits)) small)
    (λ i h.
    let low : i < 8 * (n / 8 + 1) = rw long at h in
    bitmap_bit-bitmap (take n bits) i
    ∙ by_cases_lt (i / 8) (n / 8)
    (λ byte.
    get_or-take n bits i false (omega arith)
    ∙ sym (ap (λ (k : ℕ). eqb (bit_at k (i % 8)) 1)
    (get_or_append_left front (last ∷ []) 0 (i / 8) (rw front_long byte)
    ∙ get_or-take (n / 8) (bitmap bits) (i / 8) 0 byte)
    ∙ bitmap_bit-bitmap bits i))
    (λ past.
    let here : i / 8 ≡ n / 8 = omega arith in
    let at : get_or (front ++ last ∷ []) (i / 8) 0 ≡ last = get_or_push front last 0 (i / 8) (front_long ∙ sym here) in
    by_cases_lt (i % 8) (n % 8)
    (λ inner.
    get_or-take n bits i false (omega arith)
    ∙ sym (ap (λ (k : ℕ). eqb (bit_at k (i % 8)) 1) at
    ∙ ap (λ (k : ℕ). eqb k 1) (bit_at-low (get_or (bitmap bits) (n / 8) 0) (n % 8) (i % 8) inner)
    ∙ ap (λ (k : ℕ). eqb (bit_at (get_or (bitmap bits) k 0) (i % 8)) 1) (sym here)
    ∙ bitmap_bit-bitmap bits i))
    (λ spare.
    get_or_past (take n bits) i false (rw (length-take-le n bits within) (omega arith))
    ∙ sym (ap (λ (k : ℕ). eqb (bit_at k (i % 8)) 1) at
    ∙ ap (λ (k : ℕ). eqb k 1) (bit_at-high (get_or (bitmap bits) (n / 8) 0) (n % 8) (i % 8) spare)))))

-- ---- ones

-- Zero has no bit that is set.
ones_zero : ones 0 ≡ 0
unfolding ones ones_in
ones_zero = refl

-- The number one has one bit that is set.
ones_one : ones 1 ≡ 1
unfolding ones ones_in
ones_one = refl

-- The byte of some bits has as many ones as bits that are set.
count_ones-byte_of_bits : (bits : List Bool) → count_ones (byte_of_bits bits) ≡ count_by (λ bit. bit) bits
count_ones-byte_of_bits [] = ones_zero
count_ones-byte_of_bits (true ∷ bits) =
    let turned : 1 + 2 * byte_of_bits bits ≡ byte_of_bits bits * 2 ^ 1 + 1 = omega arith in
    ap count_ones turned ∙ ones_cat 1 (byte_of_bits bits) 1 (omega arith)
    ∙ ap (λ (n : ℕ). n + ones 1) (count_ones-byte_of_bits bits) ∙ ap (λ (n : ℕ). count_by (λ bit. bit) bits + n) ones_one
    ∙ add_comm (count_by (λ bit. bit) bits) 1 ∙ sym (sum_by-cons (λ (bit : Bool). cond bit 1 0) true bits)
count_ones-byte_of_bits (false ∷ bits) =
    let turned : 0 + 2 * byte_of_bits bits ≡ byte_of_bits bits * 2 ^ 1 + 0 = omega arith in
    ap count_ones turned ∙ ones_cat 1 (byte_of_bits bits) 0 (omega arith)
    ∙ ap (λ (n : ℕ). n + ones 0) (count_ones-byte_of_bits bits) ∙ ap (λ (n : ℕ). count_by (λ bit. bit) bits + n) ones_zero
    ∙ add_comm (count_by (λ bit. bit) bits) 0 ∙ sym (sum_by-cons (λ (bit : Bool). cond bit 1 0) false bits)

-- The bytes of the first chunks of eight have as many ones as their bits.
sum_by-first_chunks : (k : ℕ) (bits : List Bool)
    → sum_by count_ones (map byte_of_bits (first_chunks 8 k bits)) ≡ count_by (λ bit. bit) (take (8 * k) bits)
sum_by-first_chunks zero bits = refl
sum_by-first_chunks (suc k) bits =
    let longer : 8 * suc k ≡ 8 + 8 * k = omega arith in
    sum_by-cons count_ones (byte_of_bits (take 8 bits)) (map byte_of_bits (first_chunks 8 k (drop 8 bits)))
    ∙ ap (λ (n : ℕ). n + sum_by count_ones (map byte_of_bits (first_chunks 8 k (drop 8 bits)))) (count_ones-byte_of_bits (take 8 bits))
    ∙ ap (λ (n : ℕ). count_by (λ bit. bit) (take 8 bits) + n) (sum_by-first_chunks k (drop 8 bits))
    ∙ sym (sum_by-append (λ (bit : Bool). cond bit 1 0) (take 8 bits) (take (8 * k) (drop 8 bits)))
    ∙ ap (count_by (λ bit. bit)) (sym (take-add 8 (8 * k) bits) ∙ ap (λ (n : ℕ). take n bits) (sym longer))

-- the ones of a bitmap are the ones of its bits
pub sum_by-bitmap : (bits : List Bool) → sum_by count_ones (bitmap bits) ≡ count_by (λ bit. bit) bits
sum_by-bitmap bits =
    sum_by-first_chunks ((length bits + 7) / 8) bits
    ∙ ap (count_by (λ bit. bit)) (take_all (8 * ((length bits + 7) / 8)) bits (omega arith))

-- A number has the ones of its low byte and those of what stands above it.
ones_byte : (b rest : ℕ) → b < 256 → ones (rest * 2 ^ 8 + b) ≡ ones b + ones rest
ones_byte b rest small = ones_cat 8 rest b small ∙ add_comm (ones rest) (ones b)

-- A word of eight bytes has the ones of each of them in sum.
ones_word : (a b c d e f g h : ℕ) → a < 256 → b < 256 → c < 256 → d < 256 → e < 256 → f < 256 → g < 256 → h < 256
    → ones (a + b * 256 + c * 65536 + d * 16777216 + e * 4294967296 + f * 1099511627776 + g * 281474976710656 + h * 72057594037927936)
    ≡ ones a + (ones b + (ones c + (ones d + (ones e + (ones f + (ones g + ones h))))))
ones_word a b c d e f g h ha hb hc hd he hf hg hh =
    let turned : a + b * 256 + c * 65536 + d * 16777216 + e * 4294967296 + f * 1099511627776 + g * 281474976710656 + h * 72057594037927936
    ≡ ((((((h * 2 ^ 8 + g) * 2 ^ 8 + f) * 2 ^ 8 + e) * 2 ^ 8 + d) * 2 ^ 8 + c) * 2 ^ 8 + b) * 2 ^ 8 + a = omega arith in
    rw (
      turned,
      ones_byte a ((((((h * 2 ^ 8 + g) * 2 ^ 8 + f) * 2 ^ 8 + e) * 2 ^ 8 + d) * 2 ^ 8 + c) * 2 ^ 8 + b) ha,
      ones_byte b (((((h * 2 ^ 8 + g) * 2 ^ 8 + f) * 2 ^ 8 + e) * 2 ^ 8 + d) * 2 ^ 8 + c) hb,
      ones_byte c ((((h * 2 ^ 8 + g) * 2 ^ 8 + f) * 2 ^ 8 + e) * 2 ^ 8 + d) hc,
      ones_byte d (((h * 2 ^ 8 + g) * 2 ^ 8 + f) * 2 ^ 8 + e) hd,
      ones_byte e ((h * 2 ^ 8 + g) * 2 ^ 8 + f) he,
      ones_byte f (h * 2 ^ 8 + g) hf,
      ones_byte g h hg,
    ) refl

-- the ones of a word are the ones of its bytes
pub count_ones-from_le_bytes : (word : List ℕ) → length word ≡ 8 → AreBytes word
    → count_ones (from_le_bytes w64 word) ≡ sum_by count_ones word
count_ones-from_le_bytes (a ∷ b ∷ c ∷ d ∷ e ∷ f ∷ g ∷ h ∷ []) long bytes =
    ones_word a b c d e f g h (bytes.below 0) (bytes.below 1) (bytes.below 2) (bytes.below 3) (bytes.below 4) (bytes.below 5)
    (bytes.below 6) (bytes.below 7)
    ∙ omega arith
count_ones-from_le_bytes _ long bytes = absurd (omega arith)

-- the ones of all words are the ones of their bytes
pub sum_by-sum_by-first_chunks : (k : ℕ) (bytes : List ℕ)
    → sum_by (sum_by count_ones) (first_chunks 8 k bytes) ≡ sum_by count_ones (take (8 * k) bytes)
sum_by-sum_by-first_chunks zero bytes = refl
sum_by-sum_by-first_chunks (suc k) bytes =
    let longer : 8 * suc k ≡ 8 + 8 * k = omega arith in
    sum_by-cons (sum_by count_ones) (take 8 bytes) (first_chunks 8 k (drop 8 bytes))
    ∙ ap (λ (n : ℕ). sum_by count_ones (take 8 bytes) + n) (sum_by-sum_by-first_chunks k (drop 8 bytes))
    ∙ sym (sum_by-append count_ones (take 8 bytes) (take (8 * k) (drop 8 bytes)))
    ∙ ap (sum_by count_ones) (sym (take-add 8 (8 * k) bytes) ∙ ap (λ (n : ℕ). take n bytes) (sym longer))

-- the words of bytes are bytes
pub AreBytes-first_chunks : (k : ℕ) (bytes : List ℕ) → AreBytes bytes → (i : ℕ) → AreBytes (get_or (first_chunks 8 k bytes) i [])
AreBytes-first_chunks zero bytes h i = record { below = λ _. omega arith }
AreBytes-first_chunks (suc k) bytes h zero = AreBytes-take bytes 8 h
AreBytes-first_chunks (suc k) bytes h (suc i) = AreBytes-first_chunks k (drop 8 bytes) (AreBytes-drop bytes 8 h) i

-- as many ones as bits are ones alone
pub All-from_count : (bits : List Bool) → count_by (λ bit. bit) bits ≡ length bits
    → (k : ℕ) (d : Bool) → k < length bits → get_or bits k d ≡ true
All-from_count [] e k d h = absurd (omega arith)
All-from_count (true ∷ bits) e zero d h = refl
All-from_count (true ∷ bits) e (suc k) d h =
    let first = sum_by-cons (λ (bit : Bool). cond bit 1 0) true bits in
    All-from_count bits (omega arith) k d (omega arith)
All-from_count (false ∷ bits) e k d h =
    let first = sum_by-cons (λ (bit : Bool). cond bit 1 0) false bits in
    let most = count_by-le-length (λ (bit : Bool). bit) bits in
    absurd (omega arith)

-- where all bits are ones, there are as many ones as bits
pub count-from_All : (bits : List Bool) → ((k : ℕ) (d : Bool) → k < length bits → get_or bits k d ≡ true)
    → count_by (λ bit. bit) bits ≡ length bits
count-from_All [] all = refl
count-from_All (true ∷ bits) all =
    let first = sum_by-cons (λ (bit : Bool). cond bit 1 0) true bits in
    let rest = count-from_All bits (λ k d h. all (suc k) d (omega arith)) in
    omega arith
count-from_All (false ∷ bits) all =
    let first : false ≡ true = all 0 true (omega arith) in
    absurd (cc)

-- ---- lent bytes

-- bytes are the bitmap of all their bits
pub whole_bits : (bytes : List ℕ) → AreBytes bytes → bytes ≡ bitmap (bitmap_bits bytes (8 * length bytes))
whole_bits bytes are =
    let bits = bitmap_bits bytes (8 * length bytes) in
    let many : length bits ≡ 8 * length bytes = length-map-range_with_len (bitmap_bit bytes) 0 (8 * length bytes) in
    let long : length (bitmap bits) ≡ length bytes = length-bitmap bits ∙ omega (arith, many) in
    same_bitmaps bytes (bitmap bits) (sym long) are (AreBytes-bitmap bits)
    (λ i below. sym (bitmap_bit-bitmap bits i ∙ get_or-map-range_with_len (bitmap_bit bytes) 0 (8 * length bytes) i i false below (omega arith)))

-- the first of all bits are the first bits
pub take_bits : (bytes : List ℕ) (n m : ℕ) → n ≤ m → take n (bitmap_bits bytes m) ≡ bitmap_bits bytes n
take_bits bytes n m within = take-map-range_with_len (bitmap_bit bytes) 0 m n within

-- ---- the fields of `Bits`

-- the bytes are the bitmap of the list that the fields show, and the length is its length
pub record Holds (bytes : List ℕ) (len : ℕ) (bits : List Bool) : Type 0 where
  pub padded : bytes ≡ bitmap bits
  pub size : len ≡ length bits

-- bytes that keep the invariant hold the bits that they show
pub Holds-from : (bytes : List ℕ) (len : ℕ) (bits : List Bool) → bitmap_bits bytes len ≡ bits → IsPadded bytes len
    → Holds bytes len bits
Holds-from bytes len bits view invariant = record {
  padded = invariant.padded ∙ ap bitmap view;
  size = sym (length-map-range_with_len (bitmap_bit bytes) 0 len) ∙ ap length view;
}

-- bytes that hold a list have one byte for each eight bits that were begun
pub Holds-length : (bytes : List ℕ) (len : ℕ) (bits : List Bool) → Holds bytes len bits → length bytes ≡ (length bits + 7) / 8
Holds-length bytes len bits h = ap length h.padded ∙ length-bitmap bits

-- an eighth that is rounded up, by the sum with seven
pub div_ceil-eight : (n : ℕ) → div_ceil n 8 ≡ (n + 7) / 8
div_ceil-eight n = grind (arith, common_steps)

-- bytes show the bits that they hold
pub Holds-view : (bytes : List ℕ) (len : ℕ) (bits : List Bool) → Holds bytes len bits → bitmap_bits bytes len ≡ bits
Holds-view bytes len bits h = bitmap_bits_is bytes len bits h.padded h.size

-- bytes that hold a list of bits keep the invariant
pub Holds-invariant : (bytes : List ℕ) (len : ℕ) (bits : List Bool) → Holds bytes len bits → len < 2 ^ 64 → IsPadded bytes len
Holds-invariant bytes len bits h fits = record { padded = bitmap_is bytes len bits h.padded h.size; fits = fits }

-- bytes that were filled up with zeros hold the list with zeros at its end
pub Holds-extended : (bytes new : List ℕ) (len longer n k m : ℕ) (bits : List Bool) → Holds bytes len bits → longer ≡ len + n
    → k ≡ div_ceil longer 8 → m ≡ length bytes → new ≡ take k bytes ++ replicate (k - m) 0
    → Holds new longer (bits ++ replicate n false)
Holds-extended bytes new len longer n k m bits h sum at is grown =
    let long = Holds-length bytes len bits h in
    let total : longer ≡ length bits + n = sum ∙ ap (λ (j : ℕ). j + n) h.size in
    let up : k ≡ (length bits + n + 7) / 8 = at ∙ div_ceil-eight longer ∙ ap (λ (j : ℕ). (j + 7) / 8) total in
    let room : (length bits + 7) / 8 + (k - m) ≡ (length bits + n + 7) / 8 = omega arith in
    record {
      padded =
          grown ∙ ap (λ (front : List ℕ). front ++ replicate (k - m) 0) (take_all k bytes (omega arith) ∙ h.padded)
          ∙ sym (bitmap-append_falses bits n (k - m) room);
      size = total ∙ sym (length-append bits (replicate n false) ∙ ap (λ (j : ℕ). length bits + j) (length-replicate n false));
    }

-- a byte with a bit put into it, as the code puts it
pub PutsBit-or : (old place : ℕ) → old < 256 → place < 8 → PutsBit old (bit_or old (1 * 2 ^ place % 256)) place true
PutsBit-or old place small low = record {
  byte = or_of_8 old (1 * 2 ^ place % 256) small (omega arith);
  same = bit_at_set_same w8 old place low;
  others = λ i below apart. bit_at_set_other w8 old place low i apart;
}

-- a byte without one bit is a byte into which a zero was put there
pub PutsBit-and : (old place : ℕ) → old < 256 → place < 8
    → PutsBit old (bit_and old (255 - 1 * 2 ^ place % 256)) place false
PutsBit-and old place small low = record {
  byte = let less = and_le_l old (255 - 1 * 2 ^ place % 256) in omega arith;
  same = bit_at_clear_same w8 old place low;
  others = λ i below apart. bit_at_clear_other w8 old place low i below apart;
}

-- a bit put into a byte of the fields is put into the list
pub Holds-set : (bytes : List ℕ) (len : ℕ) (bits : List Bool) (index : ℕ) (bit : Bool) (new : ℕ) → Holds bytes len bits
    → index < length bits → PutsBit (get_or bytes (index / 8) 0) new (index % 8) bit
    → Holds (set bytes (index / 8) new) len (set bits index bit)
Holds-set bytes len bits index bit new h within puts =
    let P : List ℕ → Type 0 = λ all. PutsBit (get_or all (index / 8) 0) new (index % 8) bit in
    record {
      padded = ap (λ (all : List ℕ). set all (index / 8) new) h.padded ∙ bitmap-set bits index bit new within (subst P h.padded puts);
      size = h.size ∙ sym (length-set bits index bit);
    }

-- a place of the list is in the bytes
pub Holds-byte : (bytes : List ℕ) (len : ℕ) (bits : List Bool) (index : ℕ) → Holds bytes len bits → index < length bits
    → index / 8 < length bytes
Holds-byte bytes len bits index h within = let long = Holds-length bytes len bits h in omega arith

-- the bit that the code reads is the list's
pub Holds-get : (bytes : List ℕ) (len : ℕ) (bits : List Bool) (index byte : ℕ) → Holds bytes len bits → index < length bits
    → byte ≡ get_or bytes (index / 8) 0
    → slice_get bits index ≡ Some (eqb (bit_and (byte / 2 ^ (index % 8)) 1) 1)
Holds-get bytes len bits index byte h within read =
    slice_get-get_or bits index false within
    ∙ ap (λ (b : Bool). Some b)
    (sym (ap (λ (n : ℕ). eqb n 1) (shr_and_one byte (index % 8) ∙ ap (λ (n : ℕ). bit_at n (index % 8)) (read ∙ ap (λ (all : List ℕ). get_or all (index / 8) 0) h.padded))
    ∙ bitmap_bit-bitmap bits index))

-- the ones of the bytes are those of the bits that they hold
pub Holds-count : (bytes : List ℕ) (len : ℕ) (bits : List Bool) → Holds bytes len bits
    → sum_by count_ones bytes ≡ count_by (λ bit. bit) bits
Holds-count bytes len bits h = ap (sum_by count_ones) h.padded ∙ sum_by-bitmap bits
