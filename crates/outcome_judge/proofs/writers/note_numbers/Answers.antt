use Rattle.std.proofs.Common.{◌≡◌, ◌∙◌, ◌≤◌, ◌<◌, ◌+◌, ◌++◌, ◌∷◌, [], ℕ, Bool, List, nat_le, true, false, take, ap, sym, arith}
use Rattle.std.proofs.lemmas.Bool.Decides.{nat_tests}
use Rattle.mark_index.specs.Lists.{marks_at, with_mark}
use Rattle.outcome_judge.specs.Targets.{target_cmp}
use Rattle.outcome_judge.specs.declared.changes.Change.{Change}
use Rattle.outcome_judge.proofs.CommitsMade.{take-next-one}
use Rattle.timeline_laws.proofs.Tests.{or-false}
use Rattle.outcome_judge.specs.Writers.{is_written}
use Rattle.outcome_judge.proofs.Numbering.{written-step}
use Rattle.outcome_judge.proofs.writers.note_numbers.Goals as goal
use Rattle.outcome_judge.proofs.writers.note_numbers.Goals.{then-change-bound+in_ok-note_number, else-change-bound}

pub loop-change-preserved : goal.loop-change-preserved
loop-change-preserved c = λ of.
    let own : List Change = c.args.own.now in
    let i : ℕ = c.loop-change.change-index in
    let bound : ℕ = c.args.bound in
    let number : ℕ = c.args.number in
    let change : Change = c.change-item.result in
    let base = marks_at target_cmp c.args.numbers.now of in
    let was = is_written of bound (take i own) in
    let next : take (i + 1) own ≡ take i own ++ change ∷ [] = take-next-one own i change c.loop-change-test.true c.change-item.is in
    elim c.if-change-bound.branch [
      | then-change-bound+in_ok-note_number w ↦
          let low : change.left.time ≤ bound = w.if-change-bound.true in
          let early : nat_le change.left.time bound ≡ true = grind (arith, nat_tests, low) in
          ap (λ (ns : _). marks_at target_cmp ns of) w.numbers-is
          ∙ w.in_ok-note_number.ensures (λ what. marks_at target_cmp c.args.numbers.now what) (λ what. is_written what bound (take i own)) c.requires c.loop-change.invariant of
          ∙ sym (ap (λ (b : Bool). with_mark b number base) (written-step of bound own i change next true early))
      | else-change-bound w ↦
          let high : bound < change.left.time = w.if-change-bound.false in
          let late : nat_le change.left.time bound ≡ false = grind (arith, nat_tests, high) in
          ap (λ (ns : _). marks_at target_cmp ns of) w.numbers-is
          ∙ c.loop-change.invariant of
          ∙ sym (ap (λ (b : Bool). with_mark b number base) (written-step of bound own i change next false late ∙ or-false was))
    ]
