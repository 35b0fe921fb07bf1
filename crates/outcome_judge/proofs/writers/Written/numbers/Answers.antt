use Rattle.std.proofs.Common.{◌≡◌, ◌∙◌, ◌<◌, ◌≤◌, ◌+◌, ℕ, Bool, List, nat_lt, ap, sym, subst, arith}
use Rattle.std.specs.List.{list_all}
use Rattle.std.specs.List.Sorted.{IsNonDecreasing}
use Rattle.mark_index.specs.Lists.{marks_at, with_mark}
use Rattle.output_read.specs.Kept.{entries_of}
use Rattle.outcome_spec.specs.Runs.{commit_count, committed_writes, transactions_of}
use Rattle.outcome_judge.specs.Targets.{target_cmp, wrote}
use Rattle.outcome_judge.specs.declared.keys.Target.{Target}
use Rattle.outcome_judge.specs.Writers.{AreNumbers}
use Rattle.outcome_judge.proofs.Numbering.{numbers-below, numbers-next, numbers-rise}
use Rattle.outcome_judge.proofs.writers.Written.numbers.Goals as goal

pub loop-at-init : goal.loop-at-init
loop-at-init c = record {
  numbers = λ of. c.new-numbers.ensures of;
  rise = λ of. subst IsNonDecreasing (sym (c.new-numbers.ensures of)) (λ i j d low within. absurd (omega (arith, within)));
  below = λ of. ap (list_all (λ (number : ℕ). nat_lt number (0 + 1))) (c.new-numbers.ensures of);
}

pub note_commit-requires-clause-below : goal.note_commit-requires-clause-below
note_commit-requires-clause-below c = c.loop-at.invariant.below

pub loop-at-preserved : goal.loop-at-preserved
loop-at-preserved c =
    let entries = entries_of c.args.replies.now in
    let at : ℕ = c.loop-at.at in
    let test : at < c.args.count = c.loop-at-test.true in
    let is : c.args.count ≡ commit_count entries = c.requires.count in
    let inside : at < commit_count entries = omega (arith, test, is) in
    let did : Target → Bool = λ of. wrote of (committed_writes entries (transactions_of entries) (at + 1)) in
    record {
      numbers = λ of.
          c.in_ok-note_commit.ensures of ∙ ap (λ (ns : List ℕ). with_mark (did of) (at + 1) ns) (c.loop-at.invariant.numbers of) ∙ sym (numbers-next entries at of inside);
      rise = λ of. subst IsNonDecreasing (sym (c.in_ok-note_commit.ensures of))
          (numbers-rise (did of) (at + 1) (marks_at target_cmp c.loop-at.numbers of) (c.loop-at.invariant.rise of) (c.loop-at.invariant.below of));
      below = λ of. ap (list_all (λ (number : ℕ). nat_lt number (at + 1 + 1))) (c.in_ok-note_commit.ensures of)
          ∙ numbers-below (did of) (at + 1) (marks_at target_cmp c.loop-at.numbers of) (c.loop-at.invariant.below of);
    }

pub returns : goal.returns
returns c =
    let high : c.loop-at.at ≤ c.args.count = c.loop-at.auto.at-end in
    let past : c.args.count ≤ c.loop-at.at = c.loop-at-test.false in
    let end : c.loop-at.at ≡ c.args.count = omega (arith, high, past) in
    subst (λ (n : ℕ). AreNumbers (entries_of c.args.replies.now) n c.loop-at.numbers) end c.loop-at.invariant
