use mir.Syntax.{w128}
use mir.Val.{of_z, to_z}
use Rattle.std.proofs.Common.{◌≡◌, ◌+◌, ◌∙◌, ◌&&◌, eqb, ℕ, ℤ, ◌+ℤ◌, take, take_all, length, ap, sym, subst, rules}
use Rattle.std.specs.Ordering.{int_eq}
use Rattle.std.proofs.lemmas.Int.{to_z-of_z}
use Rattle.isolation_spec.specs.Contents.{State, numbers_between, sum_of}
use Rattle.output_read.specs.Kept.{entries_of}
use Rattle.si_machine.proofs.Sums.{Summed, summed-none, summed-one}
use Rattle.outcome_judge.specs.KeyLists.{rows_at}
use Rattle.outcome_judge.specs.Seen.{seen_up_to}
use Rattle.outcome_judge.proofs.Walking.{number-none, number-one, number-small, numbers_up_to}
use Rattle.outcome_judge.proofs.sights.Sights.is_total_at.Goals as goal
use Rattle.outcome_judge.proofs.sights.Sights.is_total_at.Goals.{in-Some, in_default}

pub loop-of-preserved : goal.loop-of-preserved
loop-of-preserved c =
    let seen : State = seen_up_to c.args.openings.now (entries_of c.args.replies.now) (length c.args.replies.now) c.args.opening c.args.at in
    let keys = c.args.keys.now in
    let i : ℕ = c.loop-of.of-index in
    let column = c.args.asked.column in
    let low = c.args.asked.low in
    let high = c.args.asked.high in
    elim c.match-number_at.branch [
      | in-Some w ↦
          let number : ℤ = w.in-Some.number in
          let sum : ℤ = to_z w128 c.loop-of.sum-bits in
          let one = sym c.number_at.ensures ∙ w.in-Some.is in
          let number_is : to_z w128 (of_z w128 number) ≡ number = to_z-of_z w128 number (search rules) in
          let sum_is : to_z w128 (of_z w128 (sum +ℤ number)) ≡ sum +ℤ number = to_z-of_z w128 (sum +ℤ number) (search rules) in
          subst (λ (count : ℕ). Summed count (to_z w128 c.match-number_at.sum-bits) (i + 1) (numbers_up_to seen keys column low high (i + 1))) (sym w.count-is)
          (subst (λ (sum : ℤ). Summed (c.loop-of.count + 1) sum (i + 1) (numbers_up_to seen keys column low high (i + 1)))
          (sym (w.sum-is ∙ ap (λ (n : ℤ). to_z w128 (of_z w128 (sum +ℤ n))) number_is ∙ sum_is))
          (subst (Summed (c.loop-of.count + 1) (sum +ℤ number) (i + 1)) (sym (number-one seen keys column low high i _ number c.loop-of-test.true one))
          (summed-one c.loop-of.count i sum (numbers_up_to seen keys column low high i) number (number-small seen keys column low high _ number c.requires.low c.requires.high one) c.loop-of.invariant)))
      | in_default w ↦
          subst (λ (count : ℕ). Summed count (to_z w128 c.match-number_at.sum-bits) (i + 1) (numbers_up_to seen keys column low high (i + 1))) (sym w.count-is)
          (subst (λ (sum : ℤ). Summed c.loop-of.count sum (i + 1) (numbers_up_to seen keys column low high (i + 1))) (sym w.sum-is)
          (subst (Summed c.loop-of.count (to_z w128 c.loop-of.sum-bits) (i + 1)) (sym (number-none seen keys column low high i _ c.loop-of-test.true (sym c.number_at.ensures ∙ w.in_default.is)))
          (summed-none c.loop-of.count i (to_z w128 c.loop-of.sum-bits) (numbers_up_to seen keys column low high i) c.loop-of.invariant)))
    ]

pub returns : goal.returns
returns c =
    let seen : State = seen_up_to c.args.openings.now (entries_of c.args.replies.now) (length c.args.replies.now) c.args.opening c.args.at in
    let all : take c.loop-of.of-index c.args.keys.now ≡ c.args.keys.now = take_all c.loop-of.of-index c.args.keys.now c.loop-of-test.false in
    let numbers : numbers_up_to seen c.args.keys.now c.args.asked.column c.args.asked.low c.args.asked.high c.loop-of.of-index ≡ numbers_between c.args.asked.column c.args.asked.low c.args.asked.high (rows_at seen c.args.keys.now) =
    ap (λ ks. numbers_between c.args.asked.column c.args.asked.low c.args.asked.high (rows_at seen ks)) all in
    c.is_told.ensures
    ∙ ap (λ (n : ℕ). eqb c.args.told.count n && int_eq c.args.told.sum (to_z w128 c.loop-of.sum-bits)) (c.loop-of.invariant.count_is ∙ ap length numbers)
    ∙ ap (λ (n : ℤ). eqb c.args.told.count (length (numbers_between c.args.asked.column c.args.asked.low c.args.asked.high (rows_at seen c.args.keys.now))) && int_eq c.args.told.sum n) (c.loop-of.invariant.sum_is ∙ ap sum_of numbers)
