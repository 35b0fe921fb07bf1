-- The ends of kinds of numbers, and of what lies between two of them.
use Rattle.std.proofs.Common.{◌≡◌, ◌-◌, ◌*◌, ◌^◌, Bool, true, false, ℤ, pos, negsuc, ◌+ℤ◌, ◌≤ℤ◌, ◌<ℤ◌, refl, sym, ap, ◌∙◌, arith}
use Rattle.std.proofs.lemmas.Int.{clamps, ints, to_z-of_z}
use Rattle.std.specs.Int.RustNames.{FitsSigned}
use mir.Syntax.{w128}
use Rattle.std.proofs.lemmas.Bool.Decides.{same_from_decides}
use Rattle.std.specs.Bool.{Decides}
use Rattle.std.specs.Int.{byte_len, cast_unsigned, int_max, int_min}
use lib.Signed.{lt_z}
use mir.Val.{to_z, of_z}
use Rattle.cell_model.specs.Values.{is_between, is_integer_in}
use Rattle.cell_model.specs.Widths.{number_width}
use Rattle.cell_model.specs.declared.width.NumberWidth.TheVariants.{Bits8, Bits16, Bits32, Bits64}
use Rattle.lane_filter.specs.declared.interval.Interval.{Interval}
use Rattle.lane_filter.specs.declared.numbers.Numbers.{Numbers}
use Rattle.lane_filter.specs.declared.numbers.Numbers.TheVariants.{Signed, Unsigned}
use Rattle.lane_filter.specs.Intervals.{Cuts}
use Rattle.lane_filter.specs.Lanes.{numbers_of}
use Rattle.lane_filter.specs.Totals.{IsNumber, least_of, most_of, values_in, width_of}

-- ---- between two

pub between_parts : (low high number : ℤ) → is_between low high number ≡ true → (low ≤ℤ number) × (number ≤ℤ high)
between_parts low high number is = (grind (arith, ints, is), grind (arith, ints, is))

pub between_true : (low high number : ℤ) → low ≤ℤ number → number ≤ℤ high → is_between low high number ≡ true
between_true low high number from to = grind (arith, ints)

pub Decides-between : (low high number : ℤ) → Decides (is_between low high number) ((low ≤ℤ number) × (number ≤ℤ high))
Decides-between low high number = (between_parts low high number, λ (p : (low ≤ℤ number) × (number ≤ℤ high)). between_true low high number p.0 p.1)

not_true : (b : Bool) → (b ≡ true → ⊥) → b ≡ false
not_true true never = absurd (never refl)
not_true false never = refl

pub between_false : (low high number : ℤ) → (low ≤ℤ number → number ≤ℤ high → ⊥) → is_between low high number ≡ false
between_false low high number never =
    not_true (is_between low high number) (λ is. let p = between_parts low high number is in never p.0 p.1)

-- ---- the ends of a kind

pub record Ends (numbers : Numbers) : Type 0 where
  pub low : negsuc (2 ^ 63 - 1) ≤ℤ least_of numbers
  pub none : least_of numbers ≤ℤ pos 0
  pub some : pos 0 ≤ℤ most_of numbers
  pub high : most_of numbers ≤ℤ pos (2 ^ 64 - 1)
  pub half : negsuc (2 ^ (8 * byte_len (number_width (width_of numbers)) - 1) - 1) ≤ℤ least_of numbers
  pub top : most_of numbers ≤ℤ pos (numbers_of (number_width (width_of numbers)) - 1)
  pub near : most_of numbers ≤ℤ (least_of numbers +ℤ pos (2 ^ 64 - 1))
  pub whole : most_of numbers +ℤ pos 1 ≡ least_of numbers +ℤ pos (numbers_of (number_width (width_of numbers)))

pub ends_of : (numbers : Numbers) → Ends numbers
ends_of (Signed Bits8) = record { low = omega (arith, ints); none = omega (arith, ints); some = omega (arith, ints); high = omega (arith, ints); half = omega (arith, ints); top = omega (arith, ints); near = omega (arith, ints); whole = omega (arith, ints) }
ends_of (Signed Bits16) = record { low = omega (arith, ints); none = omega (arith, ints); some = omega (arith, ints); high = omega (arith, ints); half = omega (arith, ints); top = omega (arith, ints); near = omega (arith, ints); whole = omega (arith, ints) }
ends_of (Signed Bits32) = record { low = omega (arith, ints); none = omega (arith, ints); some = omega (arith, ints); high = omega (arith, ints); half = omega (arith, ints); top = omega (arith, ints); near = omega (arith, ints); whole = omega (arith, ints) }
ends_of (Signed Bits64) = record { low = omega (arith, ints); none = omega (arith, ints); some = omega (arith, ints); high = omega (arith, ints); half = omega (arith, ints); top = omega (arith, ints); near = omega (arith, ints); whole = omega (arith, ints) }
ends_of (Unsigned Bits8) = record { low = omega (arith, ints); none = omega (arith, ints); some = omega (arith, ints); high = omega (arith, ints); half = omega (arith, ints); top = omega (arith, ints); near = omega (arith, ints); whole = omega (arith, ints) }
ends_of (Unsigned Bits16) = record { low = omega (arith, ints); none = omega (arith, ints); some = omega (arith, ints); high = omega (arith, ints); half = omega (arith, ints); top = omega (arith, ints); near = omega (arith, ints); whole = omega (arith, ints) }
ends_of (Unsigned Bits32) = record { low = omega (arith, ints); none = omega (arith, ints); some = omega (arith, ints); high = omega (arith, ints); half = omega (arith, ints); top = omega (arith, ints); near = omega (arith, ints); whole = omega (arith, ints) }
ends_of (Unsigned Bits64) = record { low = omega (arith, ints); none = omega (arith, ints); some = omega (arith, ints); high = omega (arith, ints); half = omega (arith, ints); top = omega (arith, ints); near = omega (arith, ints); whole = omega (arith, ints) }

-- a number of a kind is one between its ends
number_between : (numbers : Numbers) (number : ℤ) → is_integer_in (values_in numbers) number ≡ is_between (least_of numbers) (most_of numbers) number
number_between (Signed width) number = refl
number_between (Unsigned width) number = refl

pub number_parts : (numbers : Numbers) (number : ℤ) → IsNumber numbers number → (least_of numbers ≤ℤ number) × (number ≤ℤ most_of numbers)
number_parts numbers number is = between_parts (least_of numbers) (most_of numbers) number (sym (number_between numbers number) ∙ is)

pub is_number : (numbers : Numbers) (number : ℤ) → least_of numbers ≤ℤ number → number ≤ℤ most_of numbers → IsNumber numbers number
is_number numbers number from to = number_between numbers number ∙ between_true (least_of numbers) (most_of numbers) number from to

-- ---- an interval

pub kept : (x : ℤ) → negsuc (2 ^ 66) ≤ℤ x → x ≤ℤ pos (2 ^ 66) → to_z w128 (of_z w128 x) ≡ x
kept x low high = omega (arith, ints)

pub nothing : (numbers : Numbers) (low high from to : ℤ) → from ≡ int_max low (least_of numbers) → to ≡ int_min high (most_of numbers) → to <ℤ from
    → (number : ℤ) → IsNumber numbers number → is_between low high number ≡ false
nothing numbers low high from to f t past number is =
    let p = number_parts numbers number is in
    between_false low high number (λ a b. omega (arith, ints, clamps, f, t, past, p.0, p.1, a, b))

pub cuts : (numbers : Numbers) (low high from to : ℤ) (interval : Interval) → from ≡ int_max low (least_of numbers) → to ≡ int_min high (most_of numbers)
    → from ≤ℤ to → interval.low ≡ from → interval.low +ℤ pos interval.span ≡ to
    → interval.from ≡ cast_unsigned (number_width (width_of numbers)) interval.low → Cuts numbers low high interval
cuts numbers low high from to interval f t some is ends bits =
    let e = ends_of numbers in
    let least : least_of numbers ≤ℤ interval.low = omega (arith, ints, clamps, f, is) in
    let most : (interval.low +ℤ pos interval.span) ≤ℤ most_of numbers = omega (arith, ints, clamps, t, ends) in
    record {
      least = is_number numbers interval.low least (omega (arith, ints, most));
      most = is_number numbers (interval.low +ℤ pos interval.span) (omega (arith, ints, least)) most;
      from = bits;
      same = λ number is_one.
          let p = number_parts numbers number is_one in
          same_from_decides {P = (low ≤ℤ number) × (number ≤ℤ high)} (is_between low high number)
          (is_between interval.low (interval.low +ℤ pos interval.span) number) (Decides-between low high number) (
            λ b. let q = between_parts interval.low (interval.low +ℤ pos interval.span) number b in
                (omega (arith, ints, clamps, f, is, q.0), omega (arith, ints, clamps, t, ends, q.1)),
            λ (q : (low ≤ℤ number) × (number ≤ℤ high)).
                between_true interval.low (interval.low +ℤ pos interval.span) number (omega (arith, ints, clamps, f, is, q.0, p.0))
                (omega (arith, ints, clamps, t, ends, q.1, p.1)),
          );
    }

-- an end that is cut
pub cut_below : (numbers : Numbers) (low least from : ℤ) → FitsSigned w128 low → least ≡ least_of numbers
    → from ≡ int_max (to_z w128 (of_z w128 low)) (to_z w128 (of_z w128 least)) → from ≡ int_max low (least_of numbers)
cut_below numbers low least from fits e is =
    let ends = ends_of numbers in
    let whole : to_z w128 (of_z w128 (least_of numbers)) ≡ least_of numbers =
    kept (least_of numbers) (omega (arith, ints, ends.low)) (omega (arith, ints, ends.none)) in
    is ∙ (λ i. int_max (to_z-of_z w128 low fits i) (to_z w128 (of_z w128 (e i)))) ∙ ap (int_max low) whole

pub cut_above : (numbers : Numbers) (high most to : ℤ) → FitsSigned w128 high → most ≡ most_of numbers
    → to ≡ int_min (to_z w128 (of_z w128 high)) (to_z w128 (of_z w128 most)) → to ≡ int_min high (most_of numbers)
cut_above numbers high most to fits e is =
    let ends = ends_of numbers in
    let whole : to_z w128 (of_z w128 (most_of numbers)) ≡ most_of numbers =
    kept (most_of numbers) (omega (arith, ints, ends.some)) (omega (arith, ints, ends.high)) in
    is ∙ (λ i. int_min (to_z-of_z w128 high fits i) (to_z w128 (of_z w128 (e i)))) ∙ ap (int_min high) whole

-- what a test of two numbers of 128 bits tells
pub is_below : (x y : ℤ) → FitsSigned w128 x → FitsSigned w128 y → lt_z (to_z w128 (of_z w128 x)) (to_z w128 (of_z w128 y)) ≡ true → x <ℤ y
is_below x y f g is = let e : lt_z x y ≡ true = sym (λ i. lt_z (to_z-of_z w128 x f i) (to_z-of_z w128 y g i)) ∙ is in grind (arith, ints, e)

pub not_below : (x y : ℤ) → FitsSigned w128 x → FitsSigned w128 y → lt_z (to_z w128 (of_z w128 x)) (to_z w128 (of_z w128 y)) ≡ false → y ≤ℤ x
not_below x y f g is = let e : lt_z x y ≡ false = sym (λ i. lt_z (to_z-of_z w128 x f i) (to_z-of_z w128 y g i)) ∙ is in grind (arith, ints, e)

-- the low end of an interval is a number of at most 64 bits
pub low_small : (numbers : Numbers) (low high : ℤ) (interval : Interval) → Cuts numbers low high interval
    → (negsuc (2 ^ 63 - 1) ≤ℤ interval.low) × (interval.low ≤ℤ pos (2 ^ 64 - 1))
low_small numbers low high interval cuts =
    let e = ends_of numbers in
    let p = number_parts numbers interval.low cuts.least in
    (omega (arith, ints, e.low, p.0), omega (arith, ints, e.high, p.1))
