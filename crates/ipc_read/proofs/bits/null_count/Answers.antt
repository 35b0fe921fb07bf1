use Rattle.std.proofs.Common.{◌≡◌, ℕ, Bool, true, false, ◌+◌, ◌-◌, List, [], ◌∷◌, length, map, cond, refl, sym, ap, ◌∙◌, arith}
use Rattle.std.specs.Prelude.{not, ◌||◌, ◌==◌}
use Rattle.std.specs.List.{count_by, range_with_len}
use Rattle.std.proofs.lemmas.List.FromFn.{length-range_with_len}
use Rattle.std.proofs.lemmas.List.Folds.{sum_by-replicate}
use Rattle.std.proofs.lemmas.List.Sums.{sum_by-append}
use Rattle.stream_spec.specs.Columns.{bit_of, null_count_of}
use Rattle.ipc_read.proofs.bits.null_count.Goals as goal

-- a count over one element more
count_one : {X : Type 0} (p : X → Bool) (x : X) (xs : List X) → count_by p (x ∷ xs) ≡ cond (p x) 1 0 + count_by p xs
count_one p x xs =
    sum_by-append (λ y. cond {A = ℕ} (p y) 1 0) (x ∷ []) xs
    ∙ ap (λ (n : ℕ). n + count_by p xs) (sum_by-replicate (λ y. cond {A = ℕ} (p y) 1 0) 1 x ∙ omega arith)

either : (b : Bool) → cond {A = ℕ} (not b) 1 0 + cond {A = ℕ} b 1 0 ≡ 1
either true = refl
either false = refl

-- zeros and ones are all
zeros_and_ones : (f : ℕ → Bool) (xs : List ℕ) → count_by (λ i. not (f i)) xs + count_by (λ bit. bit) (map f xs) ≡ length xs
zeros_and_ones f [] = refl
zeros_and_ones f (x ∷ xs) =
    let zeros = count_one (λ i. not (f i)) x xs in
    let ones = count_one (λ (bit : Bool). bit) (f x) (map f xs) in
    let rest = zeros_and_ones f xs in
    let one = either (f x) in
    omega (arith, zeros, ones, rest, one)

none_counted : (xs : List ℕ) → count_by (λ i. false) xs ≡ 0
none_counted [] = refl
none_counted (x ∷ xs) = let one = count_one (λ (i : ℕ). false) x xs in let rest = none_counted xs in omega (arith, one, rest)

-- without a bitmap no slot is counted
all_valid : (validity : List ℕ) (rows : ℕ) → (length validity == 0) ≡ true → null_count_of validity rows ≡ 0
all_valid validity rows empty =
    ap (λ (b : Bool). count_by (λ i. not (b || bit_of validity i)) (range_with_len 0 rows)) empty ∙ none_counted (range_with_len 0 rows)

-- with one, those whose bit is 0
nulls_are : (validity : List ℕ) (rows : ℕ) → (length validity == 0) ≡ false
    → null_count_of validity rows ≡ rows - count_by (λ bit. bit) (map (bit_of validity) (range_with_len 0 rows))
nulls_are validity rows some =
    let all = zeros_and_ones (bit_of validity) (range_with_len 0 rows) in
    let long = length-range_with_len 0 rows in
    ap (λ (b : Bool). count_by (λ i. not (b || bit_of validity i)) (range_with_len 0 rows)) some ∙ omega (arith, all, long)

pub returns-then-is_empty : goal.returns-then-is_empty
returns-then-is_empty c = sym (all_valid c.args.validity.now c.args.rows (sym c.is_empty.ensures ∙ c.if-is_empty.true))

pub overflow_sub-result : goal.overflow_sub-result
overflow_sub-result c =
    let most = zeros_and_ones (bit_of c.args.validity.now) (range_with_len 0 c.args.rows) in
    let long = length-range_with_len 0 c.args.rows in
    let ones = c.ones_among.ensures in
    omega (arith, most, long, ones)

pub returns-then-div_ceil-validity : goal.returns-then-div_ceil-validity
returns-then-div_ceil-validity c =
    ap (λ (ones : ℕ). c.args.rows - ones) c.ones_among.ensures
    ∙ sym (nulls_are c.args.validity.now c.args.rows (sym c.is_empty.ensures ∙ c.if-is_empty.false))
