-- Numbers by their bytes.
use Rattle.std.proofs.Common.{◌≡◌, ℕ, zero, suc, ◌+◌, ◌-◌, ◌*◌, ◌/◌, ◌%◌, ◌^◌, ◌<◌, ◌≤◌, Bool, true, false, List, [], ◌∷◌, ◌++◌, length, take, drop, set, get_or, replicate, refl, sym, ap, ◌∙◌, subst, arith, inl, inr, Some, slice_get}
use Rattle.std.specs.Prelude.{ℤ, pos, negsuc}
use Rattle.std.proofs.lemmas.Int.{ints}
use Rattle.std.proofs.lemmas.List.{append-nil, length-drop, replicate-append-replicate, get_or-replicate, drop_more, drop-drop, length-append, length-replicate, take_all, set_split, drop_all}
use Rattle.std.proofs.lemmas.List.Elements.{All-set, All-append}
use Rattle.std.proofs.lemmas.Nat.{pow_pos}
use Rattle.std.proofs.lemmas.List.Concat.{flat_map-append}
use Rattle.std.proofs.lemmas.List.FromFn.{fill_by_all}
use Rattle.std.proofs.lemmas.Option.{slice_get-get_or}
use Rattle.std.proofs.lemmas.Bool.{lt-ltb, le-ltb}
use Rattle.std.proofs.Math.Nat.{mul-div_right, zero-div, mul-le-mul_left}
use Rattle.std.proofs.Math.Seq.{take-append-add, drop-append-add}
use Rattle.std.specs.Int.{bytes_low_first}
use borrow.Rule.Slice.PartMut.{mid_of, post_of, put_mid}
use Rattle.std.specs.List.{All, flat_map}
use Rattle.byteorder.specs.Numbers.{length-bytes_low_first, little_number-reads_back}
use Rattle.arrow_spec.specs.Bytes.{number_bytes}
use Rattle.flat_column.specs.Numbers.{Numbers, IsWidth, IsInRange, IsStored, value_of, first_value, values_in, width_of}
use Rattle.flat_column.proofs.ArrowLemmas.{arrow_bytes, arrow_numbers, bytes_of, twos_complement}

-- the bytes of numbers, one after another
abbrev pub all_bytes : ℕ → List ℤ → List ℕ
all_bytes width values = flat_map (bytes_of width) values

-- ---- one number

-- the sizes of the four widths, in bytes and in their half
pub record Sized (width : ℕ) : Type 0 where
  pub bytes : 0 < width / 8
  pub whole : 256 ^ (width / 8) ≡ 2 ^ width
  pub halves : 2 ^ width ≡ 2 * 2 ^ (width - 1)

-- each of the four widths has its sizes
pub sized : (width : ℕ) → IsWidth width → Sized width
sized width (inl e) = rw e (record { bytes = omega arith; whole = refl; halves = refl })
sized width (inr (inl e)) = rw e (record { bytes = omega arith; whole = refl; halves = refl })
sized width (inr (inr (inl e))) = rw e (record { bytes = omega arith; whole = refl; halves = refl })
sized width (inr (inr (inr e))) = rw e (record { bytes = omega arith; whole = refl; halves = refl })

-- a number in range is the value of its two's complement
pub value_of-twos_complement : (width : ℕ) (signed : Bool) (value : ℤ) → 2 ^ width ≡ 2 * 2 ^ (width - 1)
    → IsInRange width signed value → value_of width signed (twos_complement width value) ≡ value
value_of-twos_complement width true (pos n) halves h =
    let small : n < 2 ^ (width - 1) = omega (arith, ints) in rw (lt-ltb n (2 ^ (width - 1)) small) refl
value_of-twos_complement width true (negsuc n) halves h =
    let least : suc n ≤ 2 ^ (width - 1) = omega (arith, ints) in
    let large : 2 ^ (width - 1) ≤ 2 ^ width - suc n = omega arith in
    let turned : 2 ^ width - suc (2 ^ width - suc n) ≡ n = omega arith in
    rw (le-ltb (2 ^ width - suc n) (2 ^ (width - 1)) large) (ap negsuc turned)
value_of-twos_complement width false (pos n) halves h = refl
value_of-twos_complement width false (negsuc n) halves h = absurd (omega (arith, ints))

-- the two's complement of a number in range fits the width
pub twos_complement-lt : (width : ℕ) (signed : Bool) (value : ℤ) → 2 ^ width ≡ 2 * 2 ^ (width - 1)
    → IsInRange width signed value → twos_complement width value < 2 ^ width
twos_complement-lt width true (pos n) halves h = omega (arith, ints)
twos_complement-lt width true (negsuc n) halves h =
    let least : suc n ≤ 2 ^ (width - 1) = omega (arith, ints) in omega arith
twos_complement-lt width false (pos n) halves h = omega (arith, ints)
twos_complement-lt width false (negsuc n) halves h = absurd (omega (arith, ints))

-- a number has as many bytes as its width
pub length-bytes_of : (width : ℕ) (value : ℤ) → length (bytes_of width value) ≡ width / 8
length-bytes_of width value = length-bytes_low_first 0 (width / 8) (twos_complement width value)

-- the bytes of a number are read back as the number
pub first_value-bytes_of : (width : ℕ) (signed : Bool) (value : ℤ) (rest : List ℕ) → IsWidth width
    → IsInRange width signed value → first_value width signed (bytes_of width value ++ rest) ≡ value
first_value-bytes_of width signed value rest known ranged =
    let s = sized width known in
    let small : twos_complement width value < 256 ^ (width / 8) = rw s.whole (twos_complement-lt width signed value s.halves ranged) in
    ap (value_of width signed) (little_number-reads_back (width / 8) (twos_complement width value) rest small)
    ∙ value_of-twos_complement width signed value s.halves ranged

-- ---- pieces of one length

-- pieces of one size have that size in all, so many times
pub length-pieces : {X : Type 0} (f : X → List ℕ) (size : ℕ) (xs : List X) → ((x : X) → length (f x) ≡ size)
    → length (flat_map f xs) ≡ size * length xs
length-pieces f size [] each = omega arith
length-pieces f size (x ∷ xs) each =
    let one = each x in let more = length-pieces f size xs each in
    length-append (f x) (flat_map f xs) ∙ grind arith

-- behind the first pieces of one size stand the others
pub drop-pieces : {X : Type 0} (f : X → List ℕ) (size : ℕ) (xs : List X) (i : ℕ) → ((x : X) → length (f x) ≡ size)
    → drop (size * i) (flat_map f xs) ≡ flat_map f (drop i xs)
drop-pieces f size xs zero each = let e : size * zero ≡ 0 = omega arith in rw e refl
drop-pieces f size [] (suc i) each = drop_all (size * suc i) [] (omega arith)
drop-pieces f size (x ∷ xs) (suc i) each =
    let one = each x in
    let e : size * suc i ≡ length (f x) + size * i = grind arith in
    rw e (drop-append-add (f x) (flat_map f xs) (size * i) ∙ drop-pieces f size xs i each)

-- the first pieces of one size are those of the first elements
pub take-pieces : {X : Type 0} (f : X → List ℕ) (size : ℕ) (xs : List X) (i : ℕ) → ((x : X) → length (f x) ≡ size)
    → take (size * i) (flat_map f xs) ≡ flat_map f (take i xs)
take-pieces f size xs zero each = let e : size * zero ≡ 0 = omega arith in rw e refl
take-pieces f size [] (suc i) each = take_all (size * suc i) [] (omega arith)
take-pieces f size (x ∷ xs) (suc i) each =
    let one = each x in
    let e : size * suc i ≡ length (f x) + size * i = grind arith in
    rw e (take-append-add (f x) (flat_map f xs) (size * i) ∙ ap (λ (rest : List ℕ). f x ++ rest) (take-pieces f size xs i each))

-- ---- a list of numbers

-- bytes are those of the list that the fields show
pub record Holds (width : ℕ) (signed : Bool) (bytes : List ℕ) (values : List ℤ) : Type 0 where
  pub known : IsWidth width
  pub ranged : All (IsInRange width signed) values
  pub stored : bytes ≡ all_bytes width values

-- numbers have as many bytes as their width, for each of them
pub length-all_bytes : (width : ℕ) (values : List ℤ) → length (all_bytes width values) ≡ width / 8 * length values
length-all_bytes width values = length-pieces (bytes_of width) (width / 8) values (length-bytes_of width)

-- The bytes of numbers, divided by the bytes of one, are as many as the numbers.
count_of-bytes : (width : ℕ) (values : List ℤ) → IsWidth width → length (all_bytes width values) / (width / 8) ≡ length values
count_of-bytes width values known =
    let s = sized width known in
    ap (λ (n : ℕ). n / (width / 8)) (length-all_bytes width values) ∙ mul-div_right (length values) s.bytes

-- the number at a place of the bytes is the one at that place of the list
first_value-at : (width : ℕ) (signed : Bool) (values : List ℤ) (i : ℕ) (d : ℤ) → IsWidth width → All (IsInRange width signed) values
    → i < length values → first_value width signed (drop (width / 8 * i) (all_bytes width values)) ≡ get_or values i d
first_value-at width signed values i d known ranged within =
    ap (first_value width signed)
    (drop-pieces (bytes_of width) (width / 8) values i (length-bytes_of width)
    ∙ ap (all_bytes width) (drop_more values i d within))
    ∙ first_value-bytes_of width signed (get_or values i d) (all_bytes width (drop (i + 1) values)) known (ranged i d within)

-- the numbers that the bytes of a list hold are the list
pub values_in-all_bytes : (width : ℕ) (signed : Bool) (values : List ℤ) → IsWidth width → All (IsInRange width signed) values
    → values_in width signed (all_bytes width values) ≡ values
values_in-all_bytes width signed values known ranged =
    sym (fill_by_all (λ i. first_value width signed (drop (width / 8 * i) (all_bytes width values))) values
    (length (all_bytes width values) / (width / 8)) (pos 0) (sym (count_of-bytes width values known))
    (λ k h. sym (first_value-at width signed values k (pos 0) known ranged (let same = count_of-bytes width values known in omega arith))))

-- what the fields hold is the value that they show
pub record Opened (width : ℕ) (signed : Bool) (bytes : List ℕ) (now : Numbers) : Type 0 where
  pub width_is : width ≡ now.width
  pub signed_is : signed ≡ now.signed
  pub holds : Holds now.width now.signed bytes now.values

-- What the fields show: the width, the sign and the numbers that the bytes hold.
abbrev shown : ℕ → Bool → List ℕ → Numbers
shown width signed bytes = record { width = width; signed = signed; values = values_in width signed bytes }

-- fields that are stored hold the value that they show
pub opened : (width : ℕ) (signed : Bool) (bytes : List ℕ) (now : Numbers) → shown width signed bytes ≡ now
    → IsStored width signed bytes → Opened width signed bytes now
opened width signed bytes now view invariant =
    let P : Numbers → Type 0 = λ n. Opened width signed bytes n in
    subst P view (record {
      width_is = refl;
      signed_is = refl;
      holds = record {
        known = invariant.known;
        ranged = invariant.ranged;
        stored = invariant.stored ∙ sym (arrow_numbers width (values_in width signed bytes) invariant.known);
      };
    })

-- bytes show the numbers that they hold
pub Holds-view : (width : ℕ) (signed : Bool) (bytes : List ℕ) (values : List ℤ) → Holds width signed bytes values
    → values_in width signed bytes ≡ values
Holds-view width signed bytes values h =
    ap (values_in width signed) h.stored ∙ values_in-all_bytes width signed values h.known h.ranged

-- Bytes that hold a list of numbers keep the invariant.
Holds-invariant : (width : ℕ) (signed : Bool) (bytes : List ℕ) (values : List ℤ) → Holds width signed bytes values
    → IsStored width signed bytes
Holds-invariant width signed bytes values h =
    let view = Holds-view width signed bytes values h in
    let P : List ℤ → Type 0 = λ all. All (IsInRange width signed) all in
    record {
      known = h.known;
      ranged = subst P (sym view) h.ranged;
      stored = h.stored ∙ ap (all_bytes width) (sym view) ∙ arrow_numbers width (values_in width signed bytes) h.known;
    }

-- fields that hold a list show it, and keep the invariant
pub closed : (width : ℕ) (signed : Bool) (bytes : List ℕ) (now : Numbers) (values : List ℤ) → width ≡ now.width
    → signed ≡ now.signed → Holds now.width now.signed bytes values
    → (shown width signed bytes ≡ record now { values = values }) × IsStored width signed bytes
closed width signed bytes now values same_width same_signed h =
    rw (same_width, same_signed) (
      ap (λ (all : List ℤ). record now { values = all }) (Holds-view now.width now.signed bytes values h),
      Holds-invariant now.width now.signed bytes values h,
    )

-- bytes that hold a list have the width of each number
pub Holds-length : (width : ℕ) (signed : Bool) (bytes : List ℕ) (values : List ℤ) → Holds width signed bytes values
    → length bytes ≡ width / 8 * length values
Holds-length width signed bytes values h = ap length h.stored ∙ length-all_bytes width values

-- ---- what the code does with the bytes

-- the bytes have room for each front of the numbers
pub Holds-front : (width : ℕ) (signed : Bool) (bytes : List ℕ) (values : List ℤ) (n : ℕ) → Holds width signed bytes values
    → n ≤ length values → width / 8 * n ≤ length bytes
Holds-front width signed bytes values n h within =
    rw (Holds-length width signed bytes values h) (mul-le-mul_left (width / 8) within)

-- the bytes have room for the number at each place
pub Holds-room : (width : ℕ) (signed : Bool) (bytes : List ℕ) (values : List ℤ) (i : ℕ) → Holds width signed bytes values
    → i < length values → width / 8 * i + width / 8 ≤ length bytes
Holds-room width signed bytes values i h within =
    let front = Holds-front width signed bytes values (i + 1) h (omega arith) in
    let e : width / 8 * (i + 1) ≡ width / 8 * i + width / 8 = grind arith in
    omega arith

-- the number that is read at a place is the list's, and in range
pub Holds-get : (width : ℕ) (signed : Bool) (bytes : List ℕ) (values : List ℤ) (i : ℕ) (value : ℤ) → Holds width signed bytes values
    → i < length values → value ≡ first_value width signed (drop (width / 8 * i) bytes)
    → (slice_get values i ≡ Some value) × IsInRange width signed value
Holds-get width signed bytes values i value h within read =
    let same : value ≡ get_or values i (pos 0) =
    read ∙ ap (λ (all : List ℕ). first_value width signed (drop (width / 8 * i) all)) h.stored
    ∙ first_value-at width signed values i (pos 0) h.known h.ranged within in
    let P : ℤ → Type 0 = λ v. IsInRange width signed v in
    (slice_get-get_or values i (pos 0) within ∙ ap (λ (v : ℤ). Some v) (sym same), subst P (sym same) (h.ranged i (pos 0) within))

-- a front of the bytes is that of the first numbers
pub Holds-take : (width : ℕ) (signed : Bool) (bytes : List ℕ) (values : List ℤ) (n : ℕ) → Holds width signed bytes values
    → take (width / 8 * n) bytes ≡ all_bytes width (take n values)
Holds-take width signed bytes values n h =
    ap (take (width / 8 * n)) h.stored ∙ take-pieces (bytes_of width) (width / 8) values n (length-bytes_of width)

-- bytes into which a number was written hold the list with it
pub Holds-set : (width : ℕ) (signed : Bool) (bytes new : List ℕ) (values : List ℤ) (i : ℕ) (value : ℤ) → Holds width signed bytes values
    → i < length values → IsInRange width signed value
    → new ≡ take (width / 8 * i) bytes ++ (bytes_of width value ++ drop (width / 8) (drop (width / 8 * i) bytes))
    → Holds width signed new (set values i value)
Holds-set width signed bytes new values i value h within ranged is =
    let after : drop (width / 8) (drop (width / 8 * i) bytes) ≡ all_bytes width (drop (suc i) values) =
    let e : width / 8 * i + width / 8 ≡ width / 8 * suc i = grind arith in
    drop-drop (width / 8) (width / 8 * i) bytes ∙ ap (λ (n : ℕ). drop n bytes) e ∙ ap (drop (width / 8 * suc i)) h.stored
    ∙ drop-pieces (bytes_of width) (width / 8) values (suc i) (length-bytes_of width) in
    record {
      known = h.known;
      ranged = All-set (IsInRange width signed) values i value ranged h.ranged;
      stored =
          is ∙ ap (λ (rest : List ℕ). take (width / 8 * i) bytes ++ (bytes_of width value ++ rest)) after
          ∙ ap (λ (front : List ℕ). front ++ (bytes_of width value ++ all_bytes width (drop (suc i) values))) (Holds-take width signed bytes values i h)
          ∙ sym (ap (all_bytes width) (set_split values i value within)
          ∙ flat_map-append (bytes_of width) (take i values) (value ∷ drop (suc i) values));
    }

-- The low bytes of zero are zeros.
bytes_of_zero : (i k : ℕ) → bytes_low_first i k 0 ≡ replicate k 0
bytes_of_zero i zero = refl
bytes_of_zero zero (suc k) = ap (λ (rest : List ℕ). 0 ∷ rest) (bytes_of_zero 1 k)
bytes_of_zero (suc i) (suc k) =
    ap (λ (n : ℕ). n % 256 ∷ bytes_low_first (suc (suc i)) k 0) (zero-div (256 ^ suc i))
    ∙ ap (λ (rest : List ℕ). 0 ∷ rest) (bytes_of_zero (suc (suc i)) k)

-- The bytes of zeros are zeros, as many as the width asks for each.
all_bytes-zeros : (width n : ℕ) → all_bytes width (replicate n (pos 0)) ≡ replicate (width / 8 * n) 0
all_bytes-zeros width zero = let e : width / 8 * zero ≡ 0 = omega arith in rw e refl
all_bytes-zeros width (suc n) =
    let e : width / 8 + width / 8 * n ≡ width / 8 * suc n = grind arith in
    ap (λ (first : List ℕ). first ++ all_bytes width (replicate n (pos 0))) (bytes_of_zero 0 (width / 8))
    ∙ ap (λ (rest : List ℕ). replicate (width / 8) 0 ++ rest) (all_bytes-zeros width n)
    ∙ replicate-append-replicate (width / 8) (width / 8 * n) 0 ∙ ap (λ (k : ℕ). replicate {A = ℕ} k 0) e

-- Zero is in the range of each width, signed or not.
IsInRange-zero : (width : ℕ) (signed : Bool) → IsInRange width signed (pos 0)
IsInRange-zero width true = let some = pow_pos (width - 1) in (omega (arith, ints), omega (arith, ints))
IsInRange-zero width false = let some = pow_pos width in (omega (arith, ints), omega (arith, ints))

-- Zeros are in range, however many they are.
All-zeros : (width : ℕ) (signed : Bool) (n : ℕ) → All (IsInRange width signed) (replicate n (pos 0))
All-zeros width signed n k d h =
    let within : k < n = rw length-replicate at h in
    let P : ℤ → Type 0 = λ v. IsInRange width signed v in
    subst P (sym (get_or-replicate n k (pos 0) d within)) (IsInRange-zero width signed)

-- bytes that were filled up with zeros hold the list with zeros at its end
pub Holds-extended : (width : ℕ) (signed : Bool) (bytes new : List ℕ) (values : List ℤ) (n size len : ℕ) → Holds width signed bytes values
    → size ≡ width / 8 * (length values + n) → len ≡ length bytes → new ≡ take size bytes ++ replicate (size - len) 0
    → Holds width signed new (values ++ replicate n (pos 0))
Holds-extended width signed bytes new values n size len h at long grown =
    let had = Holds-length width signed bytes values h in
    let split : size ≡ width / 8 * length values + width / 8 * n = at ∙ grind arith in
    let more : size - len ≡ width / 8 * n = omega arith in
    record {
      known = h.known;
      ranged = All-append (IsInRange width signed) values (replicate n (pos 0)) h.ranged (All-zeros width signed n);
      stored =
          grown ∙ ap (λ (front : List ℕ). front ++ replicate (size - len) 0) (take_all size bytes (omega arith) ∙ h.stored)
          ∙ ap (λ (k : ℕ). all_bytes width values ++ replicate k 0) more
          ∙ ap (λ (rest : List ℕ). all_bytes width values ++ rest) (sym (all_bytes-zeros width n))
          ∙ sym (flat_map-append (bytes_of width) values (replicate n (pos 0)));
    }

-- what the code wrote, at the width and with the number that the list shows
pub written : (new slice bytes : List ℕ) (at place width known : ℕ) (passed value : ℤ) → IsWidth known
    → new ≡ take at slice ++ (number_bytes (width_of width) passed ++ drop (width / 8) (drop at slice))
    → slice ≡ bytes → at ≡ place → width ≡ known → passed ≡ value
    → new ≡ take place bytes ++ (bytes_of known value ++ drop (known / 8) (drop place bytes))
written new slice bytes at place width known passed value is_width is same there wide given =
    rw (is, same, there, wide, given, arrow_bytes known value is_width) refl

-- what was written to a slice from a place on
pub put_at : (bytes new number : List ℕ) (at k size : ℕ) → at ≤ length bytes → at + k ≡ length bytes → new ≡ number ++ drop size (mid_of at k bytes)
    → put_mid at k bytes new ≡ take at bytes ++ (number ++ drop size (drop at bytes))
put_at bytes new number at k size within all is =
    let middle : mid_of at k bytes ≡ drop at bytes = take_all k (drop at bytes) (omega (arith, length-drop at bytes)) in
    let behind : post_of at k bytes ≡ [] = drop_all k (drop at bytes) (omega (arith, length-drop at bytes)) in
    ap (λ (rest : List ℕ). take at bytes ++ (new ++ rest)) behind ∙ ap (λ (l : List ℕ). take at bytes ++ l) (append-nil new)
    ∙ ap (λ (l : List ℕ). take at bytes ++ l) (is ∙ ap (λ (l : List ℕ). number ++ drop size l) middle)
