use mir.Syntax.{w128}
use mir.Val.{of_z, to_z}
use Rattle.std.proofs.Common.{◌≡◌, ◌+◌, ◌∙◌, ℕ, ℤ, ◌+ℤ◌, take, length, List, ap, sym, subst, rules}
use Rattle.std.proofs.lemmas.Int.{to_z-of_z}
use Rattle.std.proofs.Common.{take_all}
use Rattle.isolation_spec.specs.Contents.{numbers_between, sum_of}
use Rattle.isolation_spec.specs.declared.command.Answer.TheVariants as answer
use Rattle.si_machine.specs.Kept.{is_number}
use Rattle.si_machine.proofs.Sums.{Summed, row-none, row-one}
use Rattle.si_machine.proofs.totals.told.Goals as goal
use Rattle.si_machine.proofs.totals.told.Goals.{in-Some, in_default}

pub loop-row-preserved : goal.loop-row-preserved
loop-row-preserved c =
    let low_is : to_z w128 (of_z w128 c.args.low) ≡ c.args.low = to_z-of_z w128 c.args.low (search rules) in
    let high_is : to_z w128 (of_z w128 c.args.high) ≡ c.args.high = to_z-of_z w128 c.args.high (search rules) in
    let low = to_z w128 (of_z w128 c.args.low) in
    let high = to_z w128 (of_z w128 c.args.high) in
    let numbers : List ℤ = numbers_between c.args.column low high (take (c.loop-row.row-index + 1) c.args.rows.now) in
    elim c.match-number_between.branch [
      | in-Some w ↦
          let number_is : to_z w128 (of_z w128 w.in-Some.number) ≡ w.in-Some.number = to_z-of_z w128 w.in-Some.number (search rules) in
          let sum_is : to_z w128 (of_z w128 (to_z w128 c.loop-row.sum-bits +ℤ w.in-Some.number)) ≡ to_z w128 c.loop-row.sum-bits +ℤ w.in-Some.number = to_z-of_z w128 (to_z w128 c.loop-row.sum-bits +ℤ w.in-Some.number) (search rules) in
          subst (λ (count : ℕ). Summed count (to_z w128 c.match-number_between.sum-bits) (c.loop-row.row-index + 1) numbers) (sym w.count-is)
          (subst (λ (sum : ℤ). Summed (c.loop-row.count + 1) sum (c.loop-row.row-index + 1) numbers)
          (sym (w.sum-is ∙ ap (λ (n : ℤ). to_z w128 (of_z w128 (to_z w128 c.loop-row.sum-bits +ℤ n))) number_is ∙ sum_is))
          (row-one c.args.column low high c.args.rows.now c.loop-row.row-index c.loop-row.count (to_z w128 c.loop-row.sum-bits) c.row-item.result w.in-Some.number c.loop-row-test.true c.row-item.is
          (ap is_number low_is ∙ c.requires.low) (ap is_number high_is ∙ c.requires.high) (sym c.number_between.ensures ∙ w.in-Some.is) c.loop-row.invariant))
      | in_default w ↦
          subst (λ (count : ℕ). Summed count (to_z w128 c.match-number_between.sum-bits) (c.loop-row.row-index + 1) numbers) (sym w.count-is)
          (subst (λ (sum : ℤ). Summed c.loop-row.count sum (c.loop-row.row-index + 1) numbers) (sym w.sum-is)
          (row-none c.args.column low high c.args.rows.now c.loop-row.row-index c.loop-row.count (to_z w128 c.loop-row.sum-bits) c.row-item.result c.loop-row-test.true c.row-item.is
          (sym c.number_between.ensures ∙ w.in_default.is) c.loop-row.invariant))
    ]

pub returns : goal.returns
returns c =
    let low_is : to_z w128 (of_z w128 c.args.low) ≡ c.args.low = to_z-of_z w128 c.args.low (search rules) in
    let high_is : to_z w128 (of_z w128 c.args.high) ≡ c.args.high = to_z-of_z w128 c.args.high (search rules) in
    let all : take c.loop-row.row-index c.args.rows.now ≡ c.args.rows.now = take_all c.loop-row.row-index c.args.rows.now c.loop-row-test.false in
    let numbers : numbers_between c.args.column (to_z w128 (of_z w128 c.args.low)) (to_z w128 (of_z w128 c.args.high)) (take c.loop-row.row-index c.args.rows.now)
    ≡ numbers_between c.args.column c.args.low c.args.high c.args.rows.now =
    ap (λ (low : ℤ). numbers_between c.args.column low (to_z w128 (of_z w128 c.args.high)) (take c.loop-row.row-index c.args.rows.now)) low_is
    ∙ ap (λ (high : ℤ). numbers_between c.args.column c.args.low high (take c.loop-row.row-index c.args.rows.now)) high_is
    ∙ ap (numbers_between c.args.column c.args.low c.args.high) all in
    ap (λ (count : ℕ). answer.Totalled count (to_z w128 c.loop-row.sum-bits)) (c.loop-row.invariant.count_is ∙ ap length numbers)
    ∙ ap (answer.Totalled (length (numbers_between c.args.column c.args.low c.args.high c.args.rows.now))) (c.loop-row.invariant.sum_is ∙ ap sum_of numbers)
