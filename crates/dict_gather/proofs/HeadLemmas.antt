-- How values compare by the numbers in their first bytes.
use Rattle.std.proofs.Common.{◌≡◌, ℕ, zero, suc, ◌+◌, ◌*◌, ◌^◌, ◌<◌, ◌≤◌, ◌⊎◌, inl, inr, List, [], ◌∷◌, ◌++◌, length, drop, replicate, get_or, Fits, w8, refl, sym, ap, ◌∙◌, arith}
use Rattle.std.specs.Prelude.{slice_index}
use Rattle.std.specs.Cmp.Lexicographic.{slice_cmp}
use Rattle.std.specs.Ordering.{nat_cmp, ordering_then, ordering_reverse}
use Rattle.std.specs.declared.cmp.Ordering.{Ordering}
use Rattle.std.specs.declared.cmp.Ordering.TheVariants.{Less, Equal, Greater}
use Rattle.std.proofs.lemmas.Cmp.{ranked, by_ranked, nat_cmp_total, nat_list_cmp_total, tied_itself}
use Rattle.std.proofs.lemmas.Bool.Decides.{nat_tests}
use Rattle.std.proofs.lemmas.List.{get_or-drop}
use Rattle.byteorder.specs.Endian.{big_from, big_number}
use Rattle.byteorder.specs.Numbers.{big_from-cons, big_from-lt}
use Rattle.dict_gather.specs.Heads.{head_of}

-- each number is a byte
abbrev pub AreBytes : List ℕ → Type 0
AreBytes bytes = (i : ℕ) → slice_index bytes i < 256

-- bytes of the program are bytes
pub fits-bytes : (bytes : List ℕ) → ((i : ℕ) → Fits w8 (get_or bytes i 0)) → AreBytes bytes
fits-bytes bytes fits i = omega (arith, fits i)

-- the bytes behind a front are bytes
pub drop-bytes : (bytes rest : List ℕ) → AreBytes bytes → rest ≡ drop 16 bytes → AreBytes rest
drop-bytes bytes rest are is i =
    let here : slice_index (drop 16 bytes) i ≡ slice_index bytes (16 + i) = get_or-drop 16 bytes i 0 in
    let same : slice_index rest i ≡ slice_index (drop 16 bytes) i = ap (λ (all : List ℕ). slice_index all i) is in
    omega (arith, are (16 + i))

-- no bytes are zero
nothing : (i n : ℕ) → big_from i n [] ≡ 0
nothing i zero = refl
nothing i (suc n) = let rest : big_from (suc i) n [] ≡ 0 = nothing (suc i) n in omega arith

-- the first byte counts most
first-more : (n byte : ℕ) (bytes : List ℕ)
    → big_number (suc n) (byte ∷ bytes) ≡ byte * 256 ^ n + big_number n bytes
first-more n byte bytes =
    ap (λ (rest : ℕ). byte * 256 ^ n + rest) (big_from-cons 0 n byte bytes)

rest-bytes : (byte : ℕ) (bytes : List ℕ) → AreBytes (byte ∷ bytes) → AreBytes bytes
rest-bytes byte bytes are i = are (suc i)

-- what a lower byte in front counts, more than all behind it
lower : (n one two first second : ℕ) → one < two → first < 256 ^ n
    → one * 256 ^ n + first < two * 256 ^ n + second
lower n one two first second below small = grind arith

less-then : (order rest : Ordering) → order ≡ Less → ordering_then order rest ≡ Less
less-then order rest is = ap (λ (o : Ordering). ordering_then o rest) is

equal-then : (order rest : Ordering) → order ≡ Equal → ordering_then order rest ≡ rest
equal-then order rest is = ap (λ (o : Ordering). ordering_then o rest) is

-- the value with the lower number is before the other
lower-before : (n : ℕ) (one two : List ℕ) → AreBytes one → AreBytes two
    → big_number n one < big_number n two → slice_cmp nat_cmp one two ≡ Less
lower-before zero one two ones twos below = absurd (omega arith)
lower-before (suc n) one [] ones twos below =
    let none : big_number (suc n) [] ≡ 0 = nothing 0 (suc n) in absurd (omega arith)
lower-before (suc n) [] (byte ∷ two) ones twos below = refl
lower-before (suc n) (first ∷ one) (second ∷ two) ones twos below =
    let here = first-more n first one in
    let there = first-more n second two in
    let small : big_number n two < 256 ^ n = big_from-lt 0 n two (rest-bytes second two twos) in
    by_ranked (first < second) (first ≡ second) (second < first)
    (nat_cmp first second) (ranked first second (nat_cmp first second) refl)
    (λ is less. less-then (nat_cmp first second) (slice_cmp nat_cmp one two) is)
    (λ is same. equal-then (nat_cmp first second) (slice_cmp nat_cmp one two) is
    ∙ lower-before n one two (rest-bytes first one ones) (rest-bytes second two twos)
    (let front : first * 256 ^ n ≡ second * 256 ^ n = ap (λ (b : ℕ). b * 256 ^ n) same in
    omega arith))
    (λ is more. let back = lower n second first (big_number n two) (big_number n one) more small in
    absurd (omega arith))

-- equal numbers with a first byte have equal first bytes
first-same : (n one two first second : ℕ) → one * 256 ^ n + first ≡ two * 256 ^ n + second
    → first < 256 ^ n → second < 256 ^ n → one ≡ two
first-same n one two first second same small few =
    by_ranked (one < two) (one ≡ two) (two < one) (nat_cmp one two)
    (ranked one two (nat_cmp one two) refl)
    (λ is less. let back = lower n one two first second less small in absurd (omega arith))
    (λ is equal. equal)
    (λ is more. let back = lower n two one second first more few in absurd (omega arith))

nat-same : (n : ℕ) → nat_cmp n n ≡ Equal
nat-same n = tied_itself nat_cmp_total n

nat-more : (one two : ℕ) → nat_cmp (suc one) (suc two) ≡ nat_cmp one two
nat-more one two = grind (arith, nat_tests)

shorter : (n : ℕ) (one two : List ℕ) (first second : ℕ)
    → (length (first ∷ one) ≤ suc n) ⊎ (length (second ∷ two) ≤ suc n)
    → (length one ≤ n) ⊎ (length two ≤ n)
shorter n one two first second (inl short) = inl (omega arith)
shorter n one two first second (inr short) = inr (omega arith)

-- the first bytes are equal, and the numbers behind them
both-same : (n : ℕ) (one two : List ℕ) (first second : ℕ) → AreBytes (first ∷ one)
    → AreBytes (second ∷ two)
    → big_number (suc n) (first ∷ one) ≡ big_number (suc n) (second ∷ two)
    → (nat_cmp first second ≡ Equal) × (big_number n one ≡ big_number n two)
both-same n one two first second ones twos same =
    let here = first-more n first one in
    let there = first-more n second two in
    let small : big_number n one < 256 ^ n = big_from-lt 0 n one (rest-bytes first one ones) in
    let few : big_number n two < 256 ^ n = big_from-lt 0 n two (rest-bytes second two twos) in
    let alike : first ≡ second = first-same n first second (big_number n one) (big_number n two)
    (sym here ∙ same ∙ there) small few in
    let front : first * 256 ^ n ≡ second * 256 ^ n = ap (λ (b : ℕ). b * 256 ^ n) alike in
    (ap (nat_cmp first) (sym alike) ∙ nat-same first, omega arith)

-- Of values whose numbers are equal, and one of which has no more bytes, the shorter is before the
-- other.
short-level : (n : ℕ) (one two : List ℕ) → AreBytes one → AreBytes two
    → big_number n one ≡ big_number n two → (length one ≤ n) ⊎ (length two ≤ n)
    → slice_cmp nat_cmp one two ≡ nat_cmp (length one) (length two)
short-level n [] [] ones twos same short = sym (nat-same 0)
short-level n [] (byte ∷ two) ones twos same short = grind (arith, nat_tests)
short-level n (byte ∷ one) [] ones twos same short = grind (arith, nat_tests)
short-level zero (first ∷ one) (second ∷ two) ones twos same (inl short) = absurd (omega arith)
short-level zero (first ∷ one) (second ∷ two) ones twos same (inr short) = absurd (omega arith)
short-level (suc n) (first ∷ one) (second ∷ two) ones twos same short =
    let alike = both-same n one two first second ones twos same in
    equal-then (nat_cmp first second) (slice_cmp nat_cmp one two) alike.0
    ∙ short-level n one two (rest-bytes first one ones) (rest-bytes second two twos) alike.1
    (shorter n one two first second short)
    ∙ sym (nat-more (length one) (length two))

-- Of values whose numbers are equal, and which have that many bytes, those behind decide.
level-behind : (n : ℕ) (one two : List ℕ) → AreBytes one → AreBytes two
    → big_number n one ≡ big_number n two → n ≤ length one → n ≤ length two
    → slice_cmp nat_cmp one two ≡ slice_cmp nat_cmp (drop n one) (drop n two)
level-behind zero one two ones twos same long more = refl
level-behind (suc n) [] two ones twos same long more = absurd (omega arith)
level-behind (suc n) (first ∷ one) [] ones twos same long more = absurd (omega arith)
level-behind (suc n) (first ∷ one) (second ∷ two) ones twos same long more =
    let alike = both-same n one two first second ones twos same in
    equal-then (nat_cmp first second) (slice_cmp nat_cmp one two) alike.0
    ∙ level-behind n one two (rest-bytes first one ones) (rest-bytes second two twos) alike.1
    (omega arith) (omega arith)

-- the number of bytes that are the same at each place
same-number : (i n : ℕ) (one two : List ℕ)
    → ((k : ℕ) → slice_index one k ≡ slice_index two k) → big_from i n one ≡ big_from i n two
same-number i zero one two same = refl
same-number i (suc n) one two same =
    ap (λ (byte : ℕ). byte * 256 ^ n + big_from (suc i) n one) (same i)
    ∙ ap (λ (rest : ℕ). slice_index two i * 256 ^ n + rest) (same-number (suc i) n one two same)

-- zeros behind a value are as if nothing were there
padded-at : (value zeros : List ℕ) (k : ℕ) → ((i : ℕ) → slice_index zeros i ≡ 0)
    → slice_index (value ++ zeros) k ≡ slice_index value k
padded-at [] zeros k none = none k
padded-at (byte ∷ value) zeros zero none = refl
padded-at (byte ∷ value) zeros (suc k) none = padded-at value zeros k none

zeros-at : (count k i : ℕ) → slice_index (drop k (replicate count 0)) i ≡ 0
zeros-at zero zero i = refl
zeros-at zero (suc k) i = refl
zeros-at (suc count) zero zero = refl
zeros-at (suc count) zero (suc i) = zeros-at count zero i
zeros-at (suc count) (suc k) i = zeros-at count k i

-- the number that is read in whole bytes is the head
pub head-read : (number : ℕ) (value : List ℕ) → number ≡ big_number 16 value
    → number ≡ head_of value
unfolding head_of
head-read number value is = is

-- the number in a value that is padded with zeros is its head
pub head-padded : (number : ℕ) (value bytes : List ℕ) → number ≡ big_number 16 bytes
    → bytes ≡ value ++ drop (length value) (replicate 16 0) → number ≡ head_of value
unfolding head_of
head-padded number value bytes is padded =
    is ∙ same-number 0 16 bytes value
    (λ k. ap (λ (all : List ℕ). slice_index all k) padded
    ∙ padded-at value (drop (length value) (replicate 16 0)) k (zeros-at 16 (length value)))

-- heads that are not equal decide
pub heads-decide : (one two : List ℕ) (order : Ordering) → AreBytes one → AreBytes two
    → order ≡ nat_cmp (head_of one) (head_of two) → (order ≡ Equal → ⊥)
    → order ≡ slice_cmp nat_cmp one two
unfolding head_of
heads-decide one two Less ones twos is apart =
    sym (lower-before 16 one two ones twos
    (ranked (big_number 16 one) (big_number 16 two) Less is))
heads-decide one two Equal ones twos is apart = absurd (apart refl)
heads-decide one two Greater ones twos is apart =
    let back : slice_cmp nat_cmp two one ≡ Less = lower-before 16 two one twos ones
    (ranked (big_number 16 one) (big_number 16 two) Greater is) in
    sym (nat_list_cmp_total.antisymm one two ∙ ap ordering_reverse back)

-- heads that compare as equal are equal
pub heads-same : (one two : List ℕ) (order : Ordering)
    → order ≡ nat_cmp (head_of one) (head_of two) → order ≡ Equal → head_of one ≡ head_of two
heads-same one two order is equal = ranked (head_of one) (head_of two) Equal (sym equal ∙ is)

-- of values with equal heads, one of which has no more bytes, the shorter is before the other
pub short-decide : (one two : List ℕ) (order : Ordering) → AreBytes one → AreBytes two
    → head_of one ≡ head_of two → (length one ≤ 16) ⊎ (length two ≤ 16)
    → order ≡ nat_cmp (length one) (length two) → order ≡ slice_cmp nat_cmp one two
unfolding head_of
short-decide one two order ones twos same short is =
    is ∙ sym (short-level 16 one two ones twos same short)

-- of values with equal heads the bytes behind the heads decide
pub level-on : (one two : List ℕ) → AreBytes one → AreBytes two → head_of one ≡ head_of two
    → 16 ≤ length one → 16 ≤ length two
    → slice_cmp nat_cmp one two ≡ slice_cmp nat_cmp (drop 16 one) (drop 16 two)
unfolding head_of
level-on one two ones twos same long more = level-behind 16 one two ones twos same long more
