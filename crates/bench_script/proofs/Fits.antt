-- The rows that draws make fit the table.
use Rattle.std.proofs.Common.{◌≡◌, ℕ, ◌+◌, ◌*◌, ◌-◌, ◌/◌, ◌%◌, ◌^◌, ◌<◌, ◌≤◌, zero, suc, Bool, true, false, [], ◌∷◌, ◌++◌, length, refl, ap, codes, decimal, arith}
use Rattle.std.specs.Prelude.{◌==◌, not, nat_lt, is_none, None, Some, if◌then◌else◌, pos, negsuc, ◌-ℤ◌, int_le}
use Rattle.std.specs.Str.{is_utf8}
use Rattle.std.proofs.lemmas.Bool.{le-leb}
use Rattle.std.proofs.lemmas.Bool.Decides.{nat_tests}
use Rattle.std.proofs.lemmas.Fmt.{IsAscii-decimal, length-decimal-le}
use Rattle.std.proofs.lemmas.Int.{ints}
use Rattle.std.proofs.lemmas.Nat.{mod_below}
use Rattle.std.proofs.lemmas.Str.{IsUtf8-from_ascii, is_utf8-from_IsUtf8}
use Rattle.std.proofs.lemmas.Str.Ascii.{IsAscii-cons}
use Rattle.cell_model.specs.declared.cell.Cell.{Cell}
use Rattle.cell_model.specs.declared.cell.Cell.TheVariants.{Null, Num, Text}
use Rattle.cell_model.specs.declared.kind.Kind.TheVariants.{I64}
use Rattle.cell_model.specs.declared.row.RowFault.TheVariants.{RangeAt}
use Rattle.cell_model.specs.Rows.{cell_fault, fits}
use Rattle.cell_model.specs.Values.{is_integer_of}
use Rattle.cell_model.specs.Widths.{most_bytes}
use Rattle.bench_spec.specs.Draws.{draw, state_after}
use Rattle.bench_spec.specs.Generated.{bench_columns, number_of, row_of, text_of}
use Rattle.bench_script.proofs.Columns.{key, number, text}

-- a draw has 31 bits
pub draw_small : (seed n : ℕ) → 0 < n → draw seed n < 2 ^ 31
draw_small seed zero some = absurd (omega (arith, some))
draw_small seed (suc n) some = below (state_after seed n * 6364136223846793005 + 1442695040888963407)
  where
    below : (s : ℕ) → s % 2 ^ 64 / 2 ^ 33 < 2 ^ 31
    below s = omega (arith, mod_below s (2 ^ 64) (omega arith))

-- a number of 64 bits fits a column of them
number_fits : (at : ℕ) (b : Bool) → b ≡ true → is_none (if not b then Some (RangeAt at) else None) ≡ true
number_fits at b is = ap (λ (c : Bool). is_none (if not c then Some (RangeAt at) else None)) is

-- A key of 63 bits is an integer of 64 bits with a sign.
key_within : (k : ℕ) → k < 2 ^ 63 → is_integer_of I64 (pos k) ≡ true
key_within k few = le-leb k (2 ^ 63 - 1) (omega (arith, few))

-- The number that a draw makes is an integer of 64 bits with a sign.
number_within : (n : ℕ) → is_integer_of I64 (number_of n) ≡ true
number_within n = within (n % 2001) (mod_below n 2001 (omega arith))
  where
    within : (m : ℕ) → m < 2001 → is_integer_of I64 (pos m -ℤ pos 1000) ≡ true
    within m few =
        let low : int_le (negsuc 9223372036854775807) (pos m -ℤ pos 1000) ≡ true = grind (arith, ints, few) in
        let high : int_le (pos m -ℤ pos 1000) (pos 9223372036854775807) ≡ true = grind (arith, ints, few) in
        rw (low, high) refl

-- a text of a draw fits
text_fits : (t : ℕ) → t < 2 ^ 31 → is_none (cell_fault 2 text (text_of t)) ≡ true
text_fits t few = by (t % 4 == 0)
  where
    utf8 : is_utf8 (codes "s" ++ decimal t) ≡ true
    utf8 = is_utf8-from_IsUtf8 (codes "s" ++ decimal t) (IsUtf8-from_ascii (codes "s" ++ decimal t) (IsAscii-cons 115 (decimal t) (omega arith) (IsAscii-decimal t (omega (arith, few)))))

    short : nat_lt most_bytes (length (codes "s" ++ decimal t)) ≡ false
    short = let few_digits : length (decimal t) ≤ 10 = length-decimal-le 10 t (omega arith) (omega (arith, few)) (omega (arith, few)) in grind (arith, nat_tests, few_digits)

    by : (b : Bool) → is_none (cell_fault 2 text (if b then Null else Text (codes "s" ++ decimal t))) ≡ true
    by true = refl
    by false = rw (utf8, short) refl

-- A row of three cells of which each fits its column fits the table.
cells_fit : (a b c : Cell) → is_none (cell_fault 0 key a) ≡ true → is_none (cell_fault 1 number b) ≡ true → is_none (cell_fault 2 text c) ≡ true
    → fits bench_columns (a ∷ b ∷ c ∷ []) ≡ true
cells_fit a b c first second third = rw (first, second, third) refl

-- a row of a key below 2 ^ 63 and a text drawn below 2 ^ 31 fits the table
pub row_fits : (k n t : ℕ) → k < 2 ^ 63 → t < 2 ^ 31 → fits bench_columns (row_of k n t) ≡ true
row_fits k n t key_few text_few = cells_fit (Num (pos k)) (Num (number_of n)) (text_of t)
    (number_fits 0 (is_integer_of I64 (pos k)) (key_within k key_few)) (number_fits 1 (is_integer_of I64 (number_of n)) (number_within n)) (text_fits t text_few)
