use mir.Syntax.{w128}
use mir.Val.{of_z, to_z}
use Rattle.std.proofs.Common.{◌≡◌, Option, ◌+◌, ◌∙◌, ℕ, ℤ, ◌+ℤ◌, take, length, List, ap, sym, subst, rules, take_all}
use Rattle.std.proofs.lemmas.Int.{to_z-of_z}
use Rattle.std.specs.Prelude.{option_and_then, slice_get}
use Rattle.block_spec.specs.Slots.{Row}
use Rattle.isolation_spec.specs.Contents.{number_between, numbers_between, sum_of}
use Rattle.shared_store.specs.Totalling.{wanted_in}
use Rattle.shared_store.proofs.Sums.{Summed, row-none, row-one}
use Rattle.shared_store.proofs.totalling.total_of_rows.Goals as goal
use Rattle.shared_store.proofs.totalling.total_of_rows.Goals.{in-Some, in_default}

-- what a row has at bounds is what it has at the same bounds
same_found : (row : Row) (column : ℕ) (low high x y : ℤ) (o : Option ℤ) → x ≡ low → y ≡ high → o ≡ option_and_then (number_between x y) (slice_get row column)
    → option_and_then (number_between low high) (slice_get row column) ≡ o
same_found row column low high x y o from to is =
    sym (is ∙ ap (λ l. option_and_then (number_between l y) (slice_get row column)) from ∙ ap (λ h. option_and_then (number_between low h) (slice_get row column)) to)

pub loop-row-preserved : goal.loop-row-preserved
loop-row-preserved c =
    let low = c.args.wanted.low in
    let high = c.args.wanted.high in
    let low_is : to_z w128 (of_z w128 low) ≡ low = to_z-of_z w128 low (search rules) in
    let high_is : to_z w128 (of_z w128 high) ≡ high = to_z-of_z w128 high (search rules) in
    let numbers : List ℤ = numbers_between c.args.wanted.column low high (take (c.loop-row.row-index + 1) c.args.rows.now) in
    let found = same_found c.row-item.result c.args.wanted.column low high _ _ c.number_in.result low_is high_is c.number_in.ensures in
    elim c.match-number_in.branch [
      | in-Some w ↦
          let number_is : to_z w128 (of_z w128 w.in-Some.number) ≡ w.in-Some.number = to_z-of_z w128 w.in-Some.number (search rules) in
          let sum_is : to_z w128 (of_z w128 (to_z w128 c.loop-row.sum-bits +ℤ w.in-Some.number)) ≡ to_z w128 c.loop-row.sum-bits +ℤ w.in-Some.number = to_z-of_z w128 (to_z w128 c.loop-row.sum-bits +ℤ w.in-Some.number) (search rules) in
          subst (λ (count : ℕ). Summed count (to_z w128 c.match-number_in.sum-bits) (c.loop-row.row-index + 1) numbers) (sym w.count-is)
          (subst (λ (sum : ℤ). Summed (c.loop-row.count + 1) sum (c.loop-row.row-index + 1) numbers)
          (sym (w.sum-is ∙ ap (λ (n : ℤ). to_z w128 (of_z w128 (to_z w128 c.loop-row.sum-bits +ℤ n))) number_is ∙ sum_is))
          (row-one c.args.wanted.column low high c.args.rows.now c.loop-row.row-index c.loop-row.count (to_z w128 c.loop-row.sum-bits) c.row-item.result w.in-Some.number c.loop-row-test.true c.row-item.is
          c.requires.small.0 c.requires.small.1 (found ∙ w.in-Some.is) c.loop-row.invariant))
      | in_default w ↦
          subst (λ (count : ℕ). Summed count (to_z w128 c.match-number_in.sum-bits) (c.loop-row.row-index + 1) numbers) (sym w.count-is)
          (subst (λ (sum : ℤ). Summed c.loop-row.count sum (c.loop-row.row-index + 1) numbers) (sym w.sum-is)
          (row-none c.args.wanted.column low high c.args.rows.now c.loop-row.row-index c.loop-row.count (to_z w128 c.loop-row.sum-bits) c.row-item.result c.loop-row-test.true c.row-item.is
          (found ∙ w.in_default.is) c.loop-row.invariant))
    ]

pub returns : goal.returns
returns c =
    let all = take_all c.loop-row.row-index c.args.rows.now c.loop-row-test.false in
    record {
      count = c.loop-row.invariant.count_is ∙ ap (λ (rows : List Row). length (wanted_in c.args.wanted rows)) all;
      sum = c.loop-row.invariant.sum_is ∙ ap (λ (rows : List Row). sum_of (wanted_in c.args.wanted rows)) all;
    }
