-- What a column lends as Arrow's bytes.
use Rattle.std.proofs.Common.{◌≡◌, ℕ, ◌*◌, ◌+◌, Bool, true, false, not, cond, List, [], ◌∷◌, length, map, refl, sym, ap, ◌∙◌, arith, add-one, inl, inr}
use Rattle.std.specs.Int.{Width, byte_len}
use Rattle.std.specs.List.{count_by}
use Rattle.std.proofs.lemmas.List.Sums.{sum_by-cons}
use Rattle.cell_model.specs.declared.cell.Cell.{Cell}
use Rattle.cell_model.specs.Values.{is_null}
use Rattle.cell_model.specs.declared.values.Values.{Values}
use Rattle.cell_model.specs.declared.values.Values.TheVariants.{Signed, Unsigned, Truths, Texts, Blobs, Strips}
use Rattle.cell_model.specs.declared.width.NumberWidth.{NumberWidth}
use Rattle.cell_model.specs.declared.width.NumberWidth.TheVariants as number
use Rattle.cell_model.specs.Widths.{number_width}
use Rattle.arrow_spec.specs.Arrays.{fixed, layout_in, null_count, strip}
use Rattle.flat_column.specs.Numbers.{IsWidth}
use Rattle.block_columns.specs.Cells.{AreNumbers, AreStrips, valid_bit}

-- the bits of a number are those of a list of numbers
pub number_bits : (w : NumberWidth) → IsWidth (8 * byte_len (number_width w))
number_bits number.Bits8 = inl refl
number_bits number.Bits16 = inr (inl refl)
number_bits number.Bits32 = inr (inr (inl refl))
number_bits number.Bits64 = inr (inr (inr refl))

-- numbers of a fixed layout have its width
pub width_of : (v : Values) (bits : ℕ) (sign : Bool) (width : Width) → AreNumbers v bits sign → layout_in v ≡ fixed width → bits ≡ 8 * byte_len width
width_of (Signed w) bits sign width known same = let e : number_width w ≡ width = cc in known.0 ∙ ap (λ x. 8 * byte_len x) e
width_of (Unsigned w) bits sign width known same = let e : number_width w ≡ width = cc in known.0 ∙ ap (λ x. 8 * byte_len x) e
width_of Truths bits sign width known same = absurd known
width_of (Texts w) bits sign width known same = absurd known
width_of (Blobs w) bits sign width known same = absurd known
width_of (Strips w) bits sign width known same = absurd known

-- and are no strips
pub numbers_apart : (v : Values) (bits : ℕ) (sign : Bool) (width : ℕ) → AreNumbers v bits sign → layout_in v ≡ strip width → ⊥
numbers_apart (Signed w) bits sign width known same = cc
numbers_apart (Unsigned w) bits sign width known same = cc
numbers_apart Truths bits sign width known same = absurd known
numbers_apart (Texts w) bits sign width known same = absurd known
numbers_apart (Blobs w) bits sign width known same = absurd known
numbers_apart (Strips w) bits sign width known same = absurd known

-- strips of a layout have its width
pub strip_width : (v : Values) (bytes width : ℕ) → AreStrips v bytes → layout_in v ≡ strip width → bytes ≡ width
strip_width (Signed w) bytes width known same = absurd known
strip_width (Unsigned w) bytes width known same = absurd known
strip_width Truths bytes width known same = absurd known
strip_width (Texts w) bytes width known same = absurd known
strip_width (Blobs w) bytes width known same = absurd known
strip_width (Strips w) bytes width known same = let e : w ≡ width = cc in known ∙ e

-- and are no numbers
pub strips_apart : (v : Values) (bytes : ℕ) (width : Width) → AreStrips v bytes → layout_in v ≡ fixed width → ⊥
strips_apart (Signed w) bytes width known same = absurd known
strips_apart (Unsigned w) bytes width known same = absurd known
strips_apart Truths bytes width known same = absurd known
strips_apart (Texts w) bytes width known same = absurd known
strips_apart (Blobs w) bytes width known same = absurd known
strips_apart (Strips w) bytes width known same = cc

-- A cell is counted once, be it null or not.
one_each : (null : Bool) → cond (not null) 1 0 + cond null 1 0 ≡ 1
one_each true = refl
one_each false = refl

-- each cell is null or not
pub nulls_and_others : (xs : List Cell) → count_by (λ bit. bit) (map valid_bit xs) + null_count xs ≡ length xs
nulls_and_others [] = refl
nulls_and_others (x ∷ xs) =
    let valid : count_by (λ bit. bit) (map valid_bit (x ∷ xs)) ≡ cond (valid_bit x) 1 0 + count_by (λ bit. bit) (map valid_bit xs) = sum_by-cons (λ (bit : Bool). cond bit 1 0) (valid_bit x) (map valid_bit xs) in
    let null : null_count (x ∷ xs) ≡ cond (is_null x) 1 0 + null_count xs = sum_by-cons (λ (c : Cell). cond (is_null c) 1 0) x xs in
    let rest : count_by (λ bit. bit) (map valid_bit xs) + null_count xs ≡ length xs = nulls_and_others xs in
    let one : cond (valid_bit x) 1 0 + cond (is_null x) 1 0 ≡ 1 = one_each (is_null x) in
    let long : length (x ∷ xs) ≡ length xs + 1 = sym (add-one (length xs)) in
    omega (arith, valid, null, rest, one, long)
