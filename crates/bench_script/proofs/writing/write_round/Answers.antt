use Rattle.std.proofs.Common.{ℕ, ◌+◌, ◌++◌, List, ap₂, sym, ◌∙◌, arith}
use Rattle.workload_spec.specs.declared.script.Line.{Line}
use Rattle.bench_spec.specs.Generated.{transaction}
use Rattle.bench_script.proofs.Ranges.{flat_more}
use Rattle.bench_script.proofs.writing.write_round.Goals as goal

pub loop-at-preserved : goal.loop-at-preserved
loop-at-preserved c =
    let at = c.loop-at.at in
    let round = c.args.round in
    let same = c.loop-at.invariant.seed in
    let made = c.in_ok-put_transaction.ensures.made in
    record {
      lines = c.in_ok-put_transaction.ensures.lines
          ∙ ap₂ (λ (lines : List Line) (seed : ℕ). lines ++ transaction seed round (at + 1)) c.loop-at.invariant.lines same
          ∙ sym (flat_more (transaction c.args.draws.now.seed round) 1 at (at + 1) (omega arith));
      made = omega (arith, made);
      seed = c.put_transaction.ensures.seed ∙ same;
    }
