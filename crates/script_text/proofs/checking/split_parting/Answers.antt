use Rattle.std.proofs.Common.{ℕ, List, sym, ◌∙◌, arith, subst}
use Rattle.workload_spec.specs.Words.{line_feed}
use Rattle.workload_spec.specs.Reading.{parts}
use Rattle.script_text.specs.Partings.{IsParted}
use Rattle.script_text.proofs.Partings.{nothing_passed, line_passed, parted_at, none_parted, before_is}
use Rattle.script_text.proofs.checking.split_parting.Goals as goal

pub loop-line-init : goal.loop-line-init
loop-line-init c = record { passed = nothing_passed c.args.bytes.now; within = omega arith }

pub loop-line-preserved : goal.loop-line-preserved
loop-line-preserved c =
    let other = rw c.as_slice.ensures at (sym c.eq.ensures ∙ c.if-eq.false) in
    record {
      passed = line_passed c.args.bytes.now c.loop-line.rest.now c.in-Some.line.now c.in-Some.behind.now c.loop-line.invariant.passed c.in-Some.ensures.text c.in-Some.ensures.whole other;
      within = omega (arith, c.in-Some.ensures.shorter, c.loop-line.invariant.within);
    }

pub returns-then-eq : goal.returns-then-eq
returns-then-eq c =
    let same = rw c.as_slice.ensures at (sym c.eq.ensures ∙ c.if-eq.true) in
    let passed = c.loop-line.invariant.passed in
    record {
      some = subst (λ (workload : List ℕ). IsParted (parts line_feed c.args.bytes.now) workload c.in-Some.behind.now) (sym (c.split_at.ensures.front ∙ before_is c.args.bytes.now c.loop-line.rest.now passed))
          (parted_at c.args.bytes.now c.loop-line.rest.now c.in-Some.line.now c.in-Some.behind.now passed c.in-Some.ensures.text c.in-Some.ensures.whole same);
      none = tt;
    }

pub returns : goal.returns
returns c = record { some = tt; none = none_parted c.args.bytes.now c.loop-line.rest.now c.loop-line.invariant.passed c.in_default.ensures.none }
