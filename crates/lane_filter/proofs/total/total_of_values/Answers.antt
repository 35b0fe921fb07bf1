use Rattle.std.proofs.Common.{◌≡◌, ℕ, ◌-◌, ◌*◌, ◌≤◌, ℤ, pos, false, cond, List, map, length, take, sym, ap, subst, ◌∙◌, arith, rules}
use Rattle.std.proofs.lemmas.Int.{to_z-of_z}
use Rattle.std.proofs.lemmas.List.{take_all}
use Rattle.std.specs.Int.{byte_len}
use Rattle.arrow_spec.specs.Arrays.{number_of}
use mir.Syntax.{w128}
use Rattle.cell_model.specs.Values.{is_between}
use Rattle.cell_model.specs.Widths.{number_width}
use Rattle.cell_model.specs.declared.cell.Cell.{Cell}
use Rattle.lane_filter.specs.Intervals.{Cuts}
use Rattle.lane_filter.specs.Totals.{IsNumber, width_of}
use Rattle.lane_filter.specs.declared.interval.Interval.{Interval}
use Rattle.lane_filter.specs.declared.numbers.Numbers.{Numbers}
use Rattle.lane_filter.proofs.Cells.{column_long, fits_width, is_total, no_cells}
use Rattle.lane_filter.proofs.Ends.{low_small}
use Rattle.lane_filter.proofs.Offsets.{sum_of}
use Rattle.lane_filter.proofs.total.total_of_values.Goals as goal

none_of : (numbers : Numbers) (x y low high : ℤ) → x ≡ low → y ≡ high
    → ((z : ℤ) → IsNumber numbers z → is_between x y z ≡ false) → (z : ℤ) → IsNumber numbers z → is_between low high z ≡ false
none_of numbers x y low high e f none z is = sym (λ i. is_between (e i) (f i) z) ∙ none z is

pub returns-in_default : goal.returns-in_default
returns-in_default c cells long are =
    let none = no_cells c.args.numbers c.args.low c.args.high (none_of c.args.numbers _ _ c.args.low c.args.high
    (to_z-of_z w128 c.args.low c.ranges.low) (to_z-of_z w128 c.args.high c.ranges.high) c.in_default.ensures) cells are.slots in
    record {
      count = ap (λ (cs : List Cell). length (map number_of cs)) (sym none);
      sum = ap (λ (cs : List Cell). sum_of (map number_of cs)) (sym none);
    }

cuts_of : (numbers : Numbers) (x y low high : ℤ) (interval : Interval) → x ≡ low → y ≡ high → Cuts numbers x y interval → Cuts numbers low high interval
cuts_of numbers x y low high interval e f cuts =
    let P : ℤ → Type 0 = λ l. Cuts numbers l y interval in
    let Q : ℤ → Type 0 = λ h. Cuts numbers low h interval in
    subst Q f (subst P e cuts)

pub choose-chosen-requires-clause-fits : goal.choose-chosen-requires-clause-fits
choose-chosen-requires-clause-fits c =
    fits_width c.args.numbers _ _ c.in-Some.interval c.width-width.result c.width-width.ensures c.in-Some.ensures

pub sum_of-requires-clause-least : goal.sum_of-requires-clause-least
sum_of-requires-clause-least c = (low_small c.args.numbers _ _ c.in-Some.interval c.in-Some.ensures).0

pub sum_of-requires-clause-most : goal.sum_of-requires-clause-most
sum_of-requires-clause-most c = (low_small c.args.numbers _ _ c.in-Some.interval c.in-Some.ensures).1

pub returns : goal.returns
returns c cells long are =
    let cuts = cuts_of c.args.numbers _ _ c.args.low c.args.high c.in-Some.interval (to_z-of_z w128 c.args.low c.ranges.low)
    (to_z-of_z w128 c.args.high c.ranges.high) c.in-Some.ensures in
    let size : c.bytes.result ≡ byte_len (number_width (width_of c.args.numbers)) =
    c.bytes.ensures.bytes ∙ ap (λ w. byte_len (number_width w)) c.width-width.ensures in
    let whole : length c.args.values.now ≤ c.args.slots * c.bytes.result =
    omega (
      arith,
      column_long c.args.numbers cells c.args.values.now are.values,
      ap (λ (n : ℕ). c.args.slots * n) size,
      ap (λ (n : ℕ). n * byte_len (number_width (width_of c.args.numbers))) long,
    ) in
    let t = is_total c.args.numbers cells c.args.nulls c.args.values.now (take (c.args.slots * c.bytes.result) c.args.values.now)
    c.args.low c.args.high c.in-Some.interval c.width-width.result c.choose-chosen.result.count c.choose-chosen.result.offsets
    (c.args.slots - c.args.nulls) c.zeros_taken-zeros.result c.zeros_between.result are c.width-width.ensures
    (take_all (c.args.slots * c.bytes.result) c.args.values.now whole) cuts c.choose-chosen.ensures.count
    c.choose-chosen.ensures.offsets (ap (λ (n : ℕ). n - c.args.nulls) (sym long))
    c.zeros_taken-zeros.ensures
    (c.zeros_between.ensures ∙ (λ i. cond (is_between (to_z-of_z w128 c.args.low c.ranges.low i) (to_z-of_z w128 c.args.high c.ranges.high i) (pos 0))
    c.zeros_taken-zeros.result 0)) in
    record {
      count = c.saturating_sub.ensures ∙ t.0;
      sum = to_z-of_z w128 c.sum_of.result (search rules) ∙ c.sum_of.ensures ∙ t.1;
    }
