use Rattle.std.proofs.Common.{◌∷◌, []}
use Rattle.workload_spec.specs.declared.command.Command.TheVariants as command
use Rattle.store_rounds.proofs.Tended.{keeps_on}
use Rattle.store_rounds.proofs.worker_turning.tend_block.Goals as goal

pub returns : goal.returns
returns g c =
    keeps_on c.args.store.now c.args.session.now c.step.new.session c.step-2.new.session c.args.lines.now c.step.new.lines c.step-2.new.lines
    (command.Seal c.args.table c.args.block ∷ []) (command.Gather c.args.table c.args.block ∷ []) 1 1 c.step.ensures c.step-2.ensures
