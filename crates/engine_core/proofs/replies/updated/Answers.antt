use Rattle.std.proofs.Common.{refl}
use Rattle.engine_core.proofs.Told.{written_runs}
use Rattle.event_spec.specs.declared.event.Event.TheVariants as event
use Rattle.engine_core.proofs.replies.updated.Goals as goal

pub returns-clause-made : goal.returns-clause-made
returns-clause-made g c = written_runs c.args.shape.now (event.Update c.args.own.now c.args.table c.args.row) c.args.held.now c.update.new.held c.told.result c.update.result
    c.told.ensures.judged c.told.ensures.refused c.update.ensures.ok c.update.ensures.err refl
