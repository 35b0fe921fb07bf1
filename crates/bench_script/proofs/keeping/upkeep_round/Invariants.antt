use Rattle.std.proofs.Common.{◌≡◌, ◌∷◌}
use Rattle.std.specs.List.{flat_map, range_with_len}
use Rattle.workload_spec.specs.declared.command.Command.TheVariants as command
use Rattle.bench_spec.specs.Generated.{freezing, line}
use Rattle.bench_script.proofs.keeping.upkeep_round.Given as goal

abbrev pub invariant-loop-block : goal.invariant-loop-block
invariant-loop-block l = l.lines.items ≡
    line 1 command.Prune ∷ line 1 command.Observe ∷ line 1 command.Observe ∷ line 1 (command.Compact 0)
    ∷ flat_map freezing (range_with_len 0 l.block)
