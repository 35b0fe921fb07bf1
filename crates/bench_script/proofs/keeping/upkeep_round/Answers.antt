use Rattle.std.proofs.Common.{◌++◌, ◌∷◌, List, ap, sym, ◌∙◌, arith}
use Rattle.workload_spec.specs.declared.command.Command.TheVariants as command
use Rattle.workload_spec.specs.declared.script.Line.{Line}
use Rattle.bench_spec.specs.Generated.{freezing, line}
use Rattle.bench_script.proofs.Ranges.{flat_more}
use Rattle.bench_script.proofs.keeping.upkeep_round.Goals as goal

abbrev behind : List Line → List Line
behind lines = line 1 command.Prune ∷ line 1 command.Observe ∷ line 1 command.Observe ∷ line 1 (command.Compact 0) ∷ lines

pub loop-block-preserved : goal.loop-block-preserved
loop-block-preserved c =
    c.in_ok-put_freezing.ensures ∙ ap (λ (lines : List Line). lines ++ freezing c.loop-block.block) c.loop-block.invariant
    ∙ ap behind (sym (flat_more freezing 0 c.loop-block.block c.loop-block.block (omega arith)))
