use Rattle.std.proofs.Common.{ℕ, ◌+◌, ◌++◌, List, ap₂, sym, ◌∙◌, arith}
use Rattle.workload_spec.specs.declared.script.Line.{Line}
use Rattle.bench_spec.specs.Generated.{rounds_at}
use Rattle.bench_script.proofs.Ranges.{flat_more}
use Rattle.bench_script.proofs.generating.generate.Goals as goal

pub loop-at-preserved : goal.loop-at-preserved
loop-at-preserved c =
    let at = c.loop-at.at in
    let same = c.loop-at.invariant.seed in
    let made = c.in_ok-put_rounds.ensures.made in
    record {
      rounds = c.in_ok-put_rounds.ensures.rounds
          ∙ ap₂ (λ (rounds : List (List Line)) (seed : ℕ). rounds ++ rounds_at seed (at + 1)) c.loop-at.invariant.rounds same
          ∙ sym (flat_more (rounds_at c.args.seed) 1 at (at + 1) (omega arith));
      made = made;
      seed = c.put_rounds.ensures.seed ∙ same;
    }
