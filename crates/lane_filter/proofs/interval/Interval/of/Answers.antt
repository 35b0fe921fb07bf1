use Rattle.std.proofs.Common.{◌≡◌, ℤ, ◌≤ℤ◌, pos, negsuc, ◌-◌, ◌^◌, ◌-ℤ◌, ◌+ℤ◌, sym, ap, subst, ◌∙◌, arith, rules}
use Rattle.std.proofs.lemmas.Int.{clamps, ints}
use Rattle.std.specs.Int.{cast_unsigned, int_max, int_min}
use lib.IntN.{nat_abs}
use mir.Syntax.{w64, w128}
use lib.Dec.{T}
use lib.Signed.{non_neg}
use mir.Val.{to_z, of_z, Fits}
use Rattle.std.specs.Int.RustNames.{FitsSigned}
use Rattle.cell_model.specs.Widths.{number_width}
use Rattle.lane_filter.specs.Intervals.{FitsIn}
use Rattle.lane_filter.specs.Totals.{least_of, most_of, width_of}
use Rattle.cell_model.specs.declared.width.NumberWidth.{NumberWidth}
use Rattle.lane_filter.specs.declared.numbers.Numbers.{Numbers}
use Rattle.lane_filter.proofs.Ends.{cut_above, cut_below, cuts, ends_of, is_below, kept, not_below, nothing}
use Rattle.lane_filter.proofs.interval.Interval.of.Goals as goal

-- the ends that are kept, as numbers of the kind
record Bounds (numbers : Numbers) (from to : ℤ) : Type 0 where
  least : least_of numbers ≤ℤ from
  most : to ≤ℤ most_of numbers
  low : to_z w128 (of_z w128 from) ≡ from
  high : to_z w128 (of_z w128 to) ≡ to
  span : to_z w128 (of_z w128 (to_z w128 (of_z w128 to) -ℤ to_z w128 (of_z w128 from))) ≡ to -ℤ from
  near : (to -ℤ from) ≤ℤ pos (2 ^ 64 - 1)

bounds : (numbers : Numbers) (low high from to : ℤ) → from ≡ int_max low (least_of numbers) → to ≡ int_min high (most_of numbers) → from ≤ℤ to
    → Bounds numbers from to
bounds numbers low high from to f t some =
    let e = ends_of numbers in
    let least : least_of numbers ≤ℤ from = omega (arith, ints, clamps, f) in
    let most : to ≤ℤ most_of numbers = omega (arith, ints, clamps, t) in
    let lower : negsuc (2 ^ 63 - 1) ≤ℤ from = omega (arith, ints, least, e.low) in
    let upper : to ≤ℤ pos (2 ^ 64 - 1) = omega (arith, ints, most, e.high) in
    let low : to_z w128 (of_z w128 from) ≡ from = kept from (omega (arith, ints, lower)) (omega (arith, ints, some, upper)) in
    let high : to_z w128 (of_z w128 to) ≡ to = kept to (omega (arith, ints, some, lower)) (omega (arith, ints, upper)) in
    record {
      least = least;
      most = most;
      low = low;
      high = high;
      span = (λ i. to_z w128 (of_z w128 (high i -ℤ low i))) ∙ kept (to -ℤ from) (omega (arith, ints, some)) (omega (arith, ints, lower, upper));
      near = omega (arith, ints, least, most, e.near);
    }

fits_in : (numbers : Numbers) (x y : ℤ) (w : NumberWidth) → w ≡ width_of numbers → x ≡ y → least_of numbers ≤ℤ y → y ≤ℤ most_of numbers
    → FitsIn (number_width w) x
fits_in numbers x y w e f least most =
    let ends = ends_of numbers in
    let one : FitsIn (number_width (width_of numbers)) y = record {
      least = omega (arith, ints, least, ends.half);
      most = omega (arith, ints, most, ends.top);
    } in
    let P : ℤ → Type 0 = λ z. FitsIn (number_width w) z in
    let Q : NumberWidth → Type 0 = λ v. FitsIn (number_width v) y in
    subst P (sym f) (subst Q (sym e) one)

pub returns-then-high-low : goal.returns-then-high-low
returns-then-high-low c =
    nothing c.args.numbers c.args.low c.args.high c.max-low.result c.min-high.result
    (cut_below c.args.numbers c.args.low _ c.max-low.result c.ranges.low c.ends-least.ensures.least c.max-low.ensures.value)
    (cut_above c.args.numbers c.args.high _ c.min-high.result c.ranges.high c.ends-least.ensures.most c.min-high.ensures.value) (is_below c.min-high.result c.max-low.result (search rules) (search rules) c.if-high-low.true)

pub bits_of-requires : goal.bits_of-requires
bits_of-requires c =
    let b = bounds c.args.numbers c.args.low c.args.high c.max-low.result c.min-high.result
    (cut_below c.args.numbers c.args.low _ c.max-low.result c.ranges.low c.ends-least.ensures.least c.max-low.ensures.value)
    (cut_above c.args.numbers c.args.high _ c.min-high.result c.ranges.high c.ends-least.ensures.most c.min-high.ensures.value) (not_below c.min-high.result c.max-low.result (search rules) (search rules) c.if-high-low.false) in
    fits_in c.args.numbers _ c.max-low.result c.width.result c.width.ensures b.low b.least (omega (arith, ints, b.most, (not_below c.min-high.result c.max-low.result (search rules) (search rules) c.if-high-low.false)))

-- what is known behind the test
is_bounded : (c : goal.After-bits_of) → Bounds c.args.numbers c.max-low.result c.min-high.result
is_bounded c =
    bounds c.args.numbers c.args.low c.args.high c.max-low.result c.min-high.result
    (cut_below c.args.numbers c.args.low _ c.max-low.result c.ranges.low c.ends-least.ensures.least c.max-low.ensures.value)
    (cut_above c.args.numbers c.args.high _ c.min-high.result c.ranges.high c.ends-least.ensures.most c.min-high.ensures.value)
    (not_below c.min-high.result c.max-low.result (search rules) (search rules) c.if-high-low.false)

difference_fits : (x y a b : ℤ) → x ≡ a → y ≡ b → b ≤ℤ a → (a -ℤ b) ≤ℤ pos (2 ^ 64 - 1) → FitsSigned w128 (x -ℤ y)
difference_fits x y a b e f some near = omega (arith, ints, e, f, some, near)

magnitude_fits : (x a : ℤ) → x ≡ a → pos 0 ≤ℤ a → a ≤ℤ pos (2 ^ 64 - 1) → T (non_neg x) × Fits w64 (nat_abs x)
magnitude_fits x (pos n) e some near =
    let P : ℤ → Type 0 = λ y. T (non_neg y) × Fits w64 (nat_abs y) in subst P (sym e) (tt, record { fits = omega (arith, ints, near) })
magnitude_fits x (negsuc n) e some near = absurd (omega (arith, ints, some))

magnitude_is : (x a : ℤ) → x ≡ a → pos 0 ≤ℤ a → pos (nat_abs x) ≡ a
magnitude_is x (pos n) e some = ap (λ y. pos (nat_abs y)) e
magnitude_is x (negsuc n) e some = absurd (omega (arith, ints, some))

pub overflow_sub-result : goal.overflow_sub-result
overflow_sub-result c =
    let b = is_bounded c in
    difference_fits _ _ c.min-high.result c.max-low.result b.high b.low (not_below c.min-high.result c.max-low.result (search rules) (search rules) c.if-high-low.false) b.near

pub overflow_cast-result : goal.overflow_cast-result
overflow_cast-result c =
    let b = is_bounded c in
    magnitude_fits _ (c.min-high.result -ℤ c.max-low.result) b.span (omega (arith, ints, (not_below c.min-high.result c.max-low.result (search rules) (search rules) c.if-high-low.false))) b.near

pub returns : goal.returns
returns c =
    let b = is_bounded c in
    let span = magnitude_is _ (c.min-high.result -ℤ c.max-low.result) b.span (omega (arith, ints, (not_below c.min-high.result c.max-low.result (search rules) (search rules) c.if-high-low.false))) in
    cuts c.args.numbers c.args.low c.args.high c.max-low.result c.min-high.result _
    (cut_below c.args.numbers c.args.low _ c.max-low.result c.ranges.low c.ends-least.ensures.least c.max-low.ensures.value)
    (cut_above c.args.numbers c.args.high _ c.min-high.result c.ranges.high c.ends-least.ensures.most c.min-high.ensures.value)
    (not_below c.min-high.result c.max-low.result (search rules) (search rules) c.if-high-low.false) b.low (joined _ _ _ _ b.low span) (c.bits_of.ensures ∙ ap (λ w. cast_unsigned (number_width w) (to_z w128 (of_z w128 c.max-low.result))) c.width.ensures)
  where
    joined : (x y a b : ℤ) → x ≡ a → y ≡ b -ℤ a → x +ℤ y ≡ b
    joined x y a b e f = omega (arith, ints, e, f)
